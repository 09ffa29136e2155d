use Rattle.st_dis.proofs.Common.{◌≡◌, ◌≤◌, ◌+◌, ◌++◌, length, word_cards, text_of_lines}
use Rattle.st_dis.proofs.writing.push_words.Given as goal

abbrev pub invariant-words : goal.invariant-words
invariant-words l = record {
  same : l.deck.items ++ text_of_lines (word_cards l.w l.before l.rest)
      ≡ l.fn.deck.items ++ text_of_lines (word_cards 0 0 l.words);
  few : l.w + length l.rest ≤ 98304;
}

abbrev pub decreases-words : goal.decreases-words
decreases-words l = length l.rest
