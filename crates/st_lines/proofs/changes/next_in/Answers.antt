use Rattle.st_lines.proofs.Common.{inl, arith}
use Rattle.st_lines.proofs.changes.next_in.Goals as goal

pub returns-clause-between : goal.returns-clause-between
returns-clause-between c v low below = inl (omega (arith, low, below))
