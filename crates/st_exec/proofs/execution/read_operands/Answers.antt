use Rattle.st_exec.proofs.Common.{refl, arith, get_or-replicate}
use Rattle.st_exec.proofs.execution.read_operands.Goals as goal

pub loop-k-init : goal.loop-k-init
loop-k-init c = record {
  size = refl;
  each = λ k below. absurd (omega arith);
  zero_from = λ k from below. get_or-replicate 32 k 0 0 below;
}
