use Rattle.st_exec.proofs.Common.{sym, ◌∙◌, arith}
use Rattle.st_exec.proofs.TransferLemmas.{all_stored-next, all_stored-all}
use Rattle.st_exec.proofs.transfers.store_card.Goals as goal

pub loop-k-preserved : goal.loop-k-preserved
loop-k-preserved c =
    rw c.store.ensures
    (all_stored-next c.loop-k.state c.args.w c.loop-k.k c.args.card.now (omega (arith, c.fits-card)) ∙ c.loop-k.invariant)

pub returns : goal.returns
returns c =
    sym (all_stored-all c.loop-k.state c.args.w c.loop-k.k c.args.card.now (omega (arith, c.fits-card)))
    ∙ c.loop-k.invariant
