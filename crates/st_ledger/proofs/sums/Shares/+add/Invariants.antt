use Rattle.st_ledger.proofs.Common.{length}
use Rattle.st_ledger.proofs.sums.Shares.+add.Given as goal

abbrev pub decreases-add : goal.decreases-add
decreases-add l = length l.waits.now
