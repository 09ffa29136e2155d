use Rattle.st_ledger.proofs.Common.{length}
use Rattle.st_ledger.proofs.waits.+add_data.Given as goal

abbrev pub decreases-add_data : goal.decreases-add_data
decreases-add_data l = length l.uses.now
