use Rattle.st_lines.proofs.Common.{◌-◌}
use Rattle.st_lines.proofs.facts.+number_from.Given as goal

abbrev pub decreases-number_from : goal.decreases-number_from
decreases-number_from l = 64 - l.i
