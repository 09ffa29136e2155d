use Rattle.st_lines.proofs.Common.{length}
use Rattle.st_lines.proofs.writing.+write_drops.Given as goal

abbrev pub decreases-write_drops : goal.decreases-write_drops
decreases-write_drops g l = length l.dropped.now.found.now
