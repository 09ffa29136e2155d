use Rattle.st_exec.proofs.Common.{sym, ◌∙◌, arith}
use Rattle.st_exec.proofs.MoveLemmas.{rest-copied, rest-copied_all}
use Rattle.st_exec.proofs.transmission.copy.Goals as goal

pub loop-k-preserved : goal.loop-k-preserved
loop-k-preserved c =
    rw (c.store.ensures, c.word-word.ensures.value)
    (rest-copied c.args.from c.args.to c.args.count c.loop-k.k c.loop-k.state (omega arith) ∙ c.loop-k.invariant)

pub returns : goal.returns
returns c =
    sym (rest-copied_all c.args.from c.args.to c.args.count c.loop-k.k c.loop-k.state (omega arith))
    ∙ c.loop-k.invariant
