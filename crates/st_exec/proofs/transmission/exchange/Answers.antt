use Rattle.st_exec.proofs.Common.{sym, ◌∙◌, arith}
use Rattle.st_exec.proofs.MoveLemmas.{rest-exchanged, rest-exchanged_all}
use Rattle.st_exec.proofs.transmission.exchange.Goals as goal

pub loop-k-preserved : goal.loop-k-preserved
loop-k-preserved c =
    rw (c.store-in-loop-k.ensures, c.store.ensures, c.word-second.ensures.value, c.word-first.ensures.value)
    (rest-exchanged c.args.from c.args.to c.args.count c.loop-k.k c.loop-k.state (omega arith)
    ∙ c.loop-k.invariant)

pub returns : goal.returns
returns c =
    sym (rest-exchanged_all c.args.from c.args.to c.args.count c.loop-k.k c.loop-k.state (omega arith))
    ∙ c.loop-k.invariant
