use Rattle.st_lines.proofs.Common.{length}
use Rattle.st_lines.proofs.writing.+write_delays.Given as goal

abbrev pub decreases-write_delays : goal.decreases-write_delays
decreases-write_delays g l = length l.ds.now
