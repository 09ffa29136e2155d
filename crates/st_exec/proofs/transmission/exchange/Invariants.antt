use Rattle.st_exec.proofs.Common.{◌≡◌, state_with_exchange}
use Rattle.st_exec.proofs.MoveLemmas.{rest}
use Rattle.st_exec.proofs.transmission.exchange.Given as goal

abbrev pub invariant-loop-k : goal.invariant-loop-k
invariant-loop-k l = rest state_with_exchange l.from l.to l.count l.k l.state ≡ state_with_exchange l.from l.to l.count l.initial.state
