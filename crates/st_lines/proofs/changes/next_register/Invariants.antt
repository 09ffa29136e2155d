use Rattle.st_lines.proofs.Common.{◌-◌}
use Rattle.st_lines.proofs.ChangeLemmas.{AreSame}
use Rattle.st_lines.proofs.changes.next_register.Given as goal

abbrev pub invariant-registers : goal.invariant-registers
invariant-registers l = AreSame l.old.items l.state l.w l.r

abbrev pub decreases-registers : goal.decreases-registers
decreases-registers l = 32 - l.r
