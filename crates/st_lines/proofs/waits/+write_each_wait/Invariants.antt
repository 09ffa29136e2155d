use Rattle.st_lines.proofs.Common.{length}
use Rattle.st_lines.proofs.waits.+write_each_wait.Given as goal

abbrev pub decreases-write_each_wait : goal.decreases-write_each_wait
decreases-write_each_wait g l = length l.waits.now
