use Rattle.st_telling.proofs.Common.{length}
use Rattle.st_telling.proofs.telling.+write_levels.Given as goal

abbrev pub decreases-write_levels : goal.decreases-write_levels
decreases-write_levels g l = length l.levels.now
