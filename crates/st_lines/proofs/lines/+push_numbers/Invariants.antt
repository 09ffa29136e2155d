use Rattle.st_lines.proofs.Common.{length}
use Rattle.st_lines.proofs.lines.+push_numbers.Given as goal

abbrev pub decreases-push_numbers : goal.decreases-push_numbers
decreases-push_numbers l = length l.ns.now
