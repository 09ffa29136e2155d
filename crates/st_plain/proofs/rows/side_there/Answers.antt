use Rattle.st_plain.proofs.Common.{arith}
use Rattle.st_plain.proofs.SideLemmas.{there-read_by}
use Rattle.st_plain.proofs.rows.side_there.Goals as goal

pub returns : goal.returns
returns c ds before behind =
    there-read_by ds c.args.past.now before c.args.bus.now c.args.side c.in-Some.w c.args.a c.latest_done-done.result
    c.last_answer.result c.in-Some.is c.latest_done-done.ensures (omega (arith, c.if-done-a.false)) c.last_answer.ensures.all c.last_answer.ensures.value
    behind
