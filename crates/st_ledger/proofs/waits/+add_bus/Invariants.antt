use Rattle.st_ledger.proofs.Common.{length}
use Rattle.st_ledger.proofs.waits.+add_bus.Given as goal

abbrev pub decreases-add_bus : goal.decreases-add_bus
decreases-add_bus l = length l.before.now
