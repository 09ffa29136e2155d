use Rattle.std.proofs.Common.{length}
use Rattle.st_time.proofs.+count.Given as goal

abbrev pub decreases-count : goal.decreases-count
decreases-count l = length l.levels.now
