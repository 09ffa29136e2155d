use Rattle.st_exec.proofs.OperandLemmas.{first-two}
use Rattle.st_exec.proofs.operands.first_operands.Goals as goal

pub returns : goal.returns
returns c = first-two _ _ _ _ c.operand_in_run.ensures c.operand_in_run-2.ensures
