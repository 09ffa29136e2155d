use Rattle.st_card.proofs.Common.{◌≡◌, ◌++◌, length, list_all, is_in_range}
use Rattle.st_card.proofs.control_cards.delays_in.Given as goal

abbrev pub invariant-numbers : goal.invariant-numbers
invariant-numbers l = record {
  so_far : l.delays.items ++ l.rest ≡ l.numbers;
  same_test : list_all (is_in_range 1 255) l.rest ≡ list_all (is_in_range 1 255) l.numbers;
}

abbrev pub decreases-numbers : goal.decreases-numbers
decreases-numbers l = length l.rest
