use Rattle.st_telling.proofs.Common.{lines_more, lines_failed}
use Rattle.st_telling.proofs.Dumps.{dumps_next}
use Rattle.st_telling.proofs.block.write_dumps.Goals as goal

pub returns-in_err-write_dump : goal.returns-in_err-write_dump
returns-in_err-write_dump g c =
    lines_failed _ _ _ _ _ _ c.from_residual.result c.from_residual.ensures.0
    (dumps_next _ _ _ c.args.seen.now c.args.dumps.now c.loop-first.first-index _ c.loop-first-test.true c.loop-first.invariant)
    c.in_err-write_dump.ensures.err

pub loop-first-preserved : goal.loop-first-preserved
loop-first-preserved g c =
    lines_more _ _ _ _ _ _
    (dumps_next _ _ _ c.args.seen.now c.args.dumps.now c.loop-first.first-index _ c.loop-first-test.true c.loop-first.invariant)
    c.in_ok-write_dump.ensures.ok
