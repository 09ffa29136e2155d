use Rattle.st_ledger.proofs.Common.{length}
use Rattle.st_ledger.proofs.because.+bus_or_order.Given as goal

abbrev pub decreases-bus_or_order : goal.decreases-bus_or_order
decreases-bus_or_order l = length l.before.now
