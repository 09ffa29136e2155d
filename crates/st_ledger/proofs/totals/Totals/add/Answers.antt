use Rattle.st_ledger.proofs.Common.{Restart, Address, Preparing, Executing}
use Rattle.st_ledger.specs.declared.charges.Stage.TheVariants.{Instruction, Index, Operand}
use Rattle.st_ledger.proofs.Added.{charge-added}
use Rattle.st_ledger.proofs.totals.Totals.add.Goals as goal

pub returns-in-Restart-clause-sums : goal.returns-in-Restart-clause-sums
returns-in-Restart-clause-sums c s = charge-added s Restart c.args.charge c.args.self.now c.in-Restart.is

pub returns-in-Instruction-clause-sums : goal.returns-in-Instruction-clause-sums
returns-in-Instruction-clause-sums c s = charge-added s Instruction c.args.charge c.args.self.now c.in-Instruction.is

pub returns-in-Address-clause-sums : goal.returns-in-Address-clause-sums
returns-in-Address-clause-sums c s = charge-added s Address c.args.charge c.args.self.now c.in-Address.is

pub returns-in-Index-clause-sums : goal.returns-in-Index-clause-sums
returns-in-Index-clause-sums c s = charge-added s Index c.args.charge c.args.self.now c.in-Index.is

pub returns-in-Preparing-clause-sums : goal.returns-in-Preparing-clause-sums
returns-in-Preparing-clause-sums c s = charge-added s Preparing c.args.charge c.args.self.now c.in-Preparing.is

pub returns-in-Operand-clause-sums : goal.returns-in-Operand-clause-sums
returns-in-Operand-clause-sums c s = charge-added s Operand c.args.charge c.args.self.now c.in-Operand.is

pub returns-in-Executing-clause-sums : goal.returns-in-Executing-clause-sums
returns-in-Executing-clause-sums c s = charge-added s Executing c.args.charge c.args.self.now c.in-Executing.is
