use Rattle.st_ledger.proofs.Common.{length}
use Rattle.st_ledger.proofs.totals.+write_each.Given as goal

abbrev pub decreases-write_each : goal.decreases-write_each
decreases-write_each g l = length l.sums.now
