use Rattle.st_back.proofs.Common.{sym, ◌∙◌, arith}
use Rattle.st_back.proofs.UndoneLemmas.{restored-next, restored-all}
use Rattle.st_back.proofs.undoing.restore.Goals as goal

pub loop-k-preserved : goal.loop-k-preserved
loop-k-preserved c =
    rw (c.store.ensures, c.from.ensures)
    (restored-next c.args.w c.args.len c.args.from c.loop-k.k c.args.words.now c.loop-k.state (omega arith)
    ∙ c.loop-k.invariant)

pub returns : goal.returns
returns c =
    sym (restored-all c.args.w c.args.len c.args.from c.loop-k.k c.args.words.now c.loop-k.state (omega arith))
    ∙ c.loop-k.invariant
