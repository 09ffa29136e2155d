use Rattle.st_exec.proofs.OperandLemmas.{first-of_operands}
use Rattle.st_exec.proofs.completing.complete.Goals as goal

pub complete_with-requires-clause-operands : goal.complete_with-requires-clause-operands
complete_with-requires-clause-operands c = first-of_operands _ _ _ c.requires.operands
