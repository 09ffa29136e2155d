use Rattle.st_dis.proofs.Common.{◌≡◌, ◌≤◌, ◌+◌, ◌*◌, length, word_cards}
use Rattle.st_dis.proofs.counting.count_words.Given as goal

abbrev pub invariant-words : goal.invariant-words
invariant-words l = record {
  same : l.count + length (word_cards 0 l.before l.rest) ≡ length (word_cards 0 0 l.words);
  few : l.count + 3 * length l.rest ≤ 3 * 98304;
}

abbrev pub decreases-words : goal.decreases-words
decreases-words l = length l.rest
