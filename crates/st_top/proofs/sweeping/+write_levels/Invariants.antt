use Rattle.st_top.proofs.Common.{length}
use Rattle.st_top.proofs.sweeping.+write_levels.Given as goal

abbrev pub decreases-write_levels : goal.decreases-write_levels
decreases-write_levels g l = length l.ticks.now
