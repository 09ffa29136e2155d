use Rattle.st_ledger.proofs.Common.{length}
use Rattle.st_ledger.proofs.waits.+add_held.Given as goal

abbrev pub decreases-add_held : goal.decreases-add_held
decreases-add_held l = length l.before.now
