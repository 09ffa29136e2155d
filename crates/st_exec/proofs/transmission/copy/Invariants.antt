use Rattle.st_exec.proofs.Common.{◌≡◌, state_with_copy}
use Rattle.st_exec.proofs.MoveLemmas.{rest}
use Rattle.st_exec.proofs.transmission.copy.Given as goal

abbrev pub invariant-loop-k : goal.invariant-loop-k
invariant-loop-k l = rest state_with_copy l.from l.to l.count l.k l.state ≡ state_with_copy l.from l.to l.count l.initial.state
