use Rattle.st_ledger.proofs.Common.{length}
use Rattle.st_ledger.proofs.totals.Totals.+add_parts.Given as goal

abbrev pub decreases-add_parts : goal.decreases-add_parts
decreases-add_parts l = length l.parts.now
