use Rattle.st_exec.proofs.Common.{arith}
use Rattle.st_exec.proofs.TransferLemmas.{words_from-each}
use Rattle.st_exec.proofs.transfers.words_at.Goals as goal

pub returns : goal.returns
returns c =
    words_from-each c.args.state.now c.args.w 8 c.loop-k.words c.loop-k.invariant.0
    (λ k below. c.loop-k.invariant.1 k (omega arith))
