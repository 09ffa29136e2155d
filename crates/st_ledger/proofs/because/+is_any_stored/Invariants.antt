use Rattle.st_ledger.proofs.Common.{length}
use Rattle.st_ledger.proofs.because.+is_any_stored.Given as goal

abbrev pub decreases-is_any_stored : goal.decreases-is_any_stored
decreases-is_any_stored l = length l.uses.now
