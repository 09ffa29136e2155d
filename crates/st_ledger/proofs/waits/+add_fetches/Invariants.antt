use Rattle.st_ledger.proofs.Common.{length}
use Rattle.st_ledger.proofs.waits.+add_fetches.Given as goal

abbrev pub decreases-add_fetches : goal.decreases-add_fetches
decreases-add_fetches l = length l.words.now
