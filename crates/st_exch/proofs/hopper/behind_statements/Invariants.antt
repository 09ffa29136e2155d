use Rattle.st_exch.proofs.Common.{◌≡◌, ◌≤◌, false, length, drop, has_statement}
use Rattle.st_exch.proofs.hopper.behind_statements.Given as goal

abbrev pub invariant-cards : goal.invariant-cards
invariant-cards l = record {
  within : l.count ≤ length l.cards;
  none : has_statement (drop l.count l.cards) ≡ false;
}

abbrev pub decreases-cards : goal.decreases-cards
decreases-cards l = l.count
