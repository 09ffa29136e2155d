use Rattle.st_account.proofs.FirstLemmas.{IsFilling}
use Rattle.st_account.proofs.origins.first_cards.Given as goal

abbrev pub invariant-loop-row : goal.invariant-loop-row
invariant-loop-row l = IsFilling l.rows l.cards.items l.row-index
