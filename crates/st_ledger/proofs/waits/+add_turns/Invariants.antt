use Rattle.st_ledger.proofs.Common.{length}
use Rattle.st_ledger.proofs.waits.+add_turns.Given as goal

abbrev pub decreases-add_turns : goal.decreases-add_turns
decreases-add_turns l = length l.uses.now
