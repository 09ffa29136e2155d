use Rattle.st_card.proofs.Common.{◌≡◌, ◌≤◌, ◌+◌, ◌*◌, ◌++◌, length, option_map, words, card_numbers}
use Rattle.st_card.proofs.keywords.read_numbers.Given as goal

abbrev pub invariant-words : goal.invariant-words
invariant-words l = record {
  same_numbers : option_map (λ more. l.numbers.items ++ more) (card_numbers (words l.rest)) ≡ card_numbers (words l.text);
  room : 2 * length l.numbers.items + length l.rest ≤ 72;
}

abbrev pub decreases-words : goal.decreases-words
decreases-words l = length l.rest
