use Rattle.st_exec.proofs.ReadLemmas.{FilledTo}
use Rattle.st_exec.proofs.execution.read_operands.Given as goal

abbrev pub invariant-loop-k : goal.invariant-loop-k
invariant-loop-k l = FilledTo l.k l.words l.operands l.state
