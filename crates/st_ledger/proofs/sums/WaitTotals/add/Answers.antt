use Rattle.st_ledger.proofs.Common.{arith}
use Rattle.st_ledger.proofs.AddedWaits.{shares-later, shares-more}
use Rattle.st_ledger.proofs.sums.WaitTotals.add.Goals as goal

pub returns-in-Instruction-clause-within : goal.returns-in-Instruction-clause-within
returns-in-Instruction-clause-within c = record {
  instruction = shares-more c.args.charge.from c.args.charge.to c.args.self.now.instruction c.add.new.self c.args.waits.now c.requires.few c.requires.within.instruction c.add.ensures.sums;
  index = shares-later c.args.charge.from c.args.charge.to c.args.self.now.index (omega (arith, c.requires.few)) c.requires.within.index;
  operand = shares-later c.args.charge.from c.args.charge.to c.args.self.now.operand (omega (arith, c.requires.few)) c.requires.within.operand;
}

pub returns-in-Index-clause-within : goal.returns-in-Index-clause-within
returns-in-Index-clause-within c = record {
  instruction = shares-later c.args.charge.from c.args.charge.to c.args.self.now.instruction (omega (arith, c.requires.few)) c.requires.within.instruction;
  index = shares-more c.args.charge.from c.args.charge.to c.args.self.now.index c.add-in-Index.new.self c.args.waits.now c.requires.few c.requires.within.index c.add-in-Index.ensures.sums;
  operand = shares-later c.args.charge.from c.args.charge.to c.args.self.now.operand (omega (arith, c.requires.few)) c.requires.within.operand;
}

pub returns-in-Operand-clause-within : goal.returns-in-Operand-clause-within
returns-in-Operand-clause-within c = record {
  instruction = shares-later c.args.charge.from c.args.charge.to c.args.self.now.instruction (omega (arith, c.requires.few)) c.requires.within.instruction;
  index = shares-later c.args.charge.from c.args.charge.to c.args.self.now.index (omega (arith, c.requires.few)) c.requires.within.index;
  operand = shares-more c.args.charge.from c.args.charge.to c.args.self.now.operand c.add-in-Operand.new.self c.args.waits.now c.requires.few c.requires.within.operand c.add-in-Operand.ensures.sums;
}
