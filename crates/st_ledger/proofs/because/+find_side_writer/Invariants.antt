use Rattle.st_ledger.proofs.Common.{length}
use Rattle.st_ledger.proofs.because.+find_side_writer.Given as goal

abbrev pub decreases-find_side_writer : goal.decreases-find_side_writer
decreases-find_side_writer l = length l.uses.now
