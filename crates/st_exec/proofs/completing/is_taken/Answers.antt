use Rattle.st_exec.proofs.InsideLemmas.{inside-bit, read-bit}
use Rattle.st_exec.proofs.completing.is_taken.Goals as goal

pub operand_field-requires-clause-inside : goal.operand_field-requires-clause-inside
operand_field-requires-clause-inside c =
    inside-bit c.in-BitBranch.sense c.in-BitBranch.change c.in-BitBranch.address c.in-BitBranch.i
    c.in-BitBranch.second c.args.e (rw c.in-BitBranch.is at c.requires.inside)

pub operand_field-requires-clause-read : goal.operand_field-requires-clause-read
operand_field-requires-clause-read c =
    read-bit c.in-BitBranch.sense c.in-BitBranch.change c.in-BitBranch.address c.in-BitBranch.i
    c.in-BitBranch.second c.args.e c.args.operands.now c.args.state.now
    (rw c.in-BitBranch.is at c.requires.read)
