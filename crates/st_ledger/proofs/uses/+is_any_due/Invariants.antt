use Rattle.st_ledger.proofs.Common.{length}
use Rattle.st_ledger.proofs.uses.+is_any_due.Given as goal

abbrev pub decreases-is_any_due : goal.decreases-is_any_due
decreases-is_any_due l = length l.uses.now
