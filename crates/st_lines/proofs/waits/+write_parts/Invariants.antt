use Rattle.st_lines.proofs.Common.{length}
use Rattle.st_lines.proofs.waits.+write_parts.Given as goal

abbrev pub decreases-write_parts : goal.decreases-write_parts
decreases-write_parts g l = length l.parts.now
