-- Termination of the search.
use Rattle.st_ledger.proofs.Common.{length}
use Rattle.st_ledger.proofs.because.+first_done.Given as goal

abbrev pub decreases-first_done : goal.decreases-first_done
decreases-first_done l = length l.numbers.now
