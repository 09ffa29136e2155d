use Rattle.st_lines.proofs.Common.{length}
use Rattle.st_lines.proofs.writing.+write_prints.Given as goal

abbrev pub decreases-write_prints : goal.decreases-write_prints
decreases-write_prints g l = length l.printed.now
