use Rattle.st_lines.proofs.Common.{length}
use Rattle.st_lines.proofs.waits.+write_each_sum.Given as goal

abbrev pub decreases-write_each_sum : goal.decreases-write_each_sum
decreases-write_each_sum g l = length l.sums.now
