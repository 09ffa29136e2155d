use Rattle.st_text.proofs.Common.{◌≡◌, ◌≤◌, length, words}
use Rattle.st_text.proofs.words.first_word.Given as goal

abbrev pub invariant-blanks : goal.invariant-blanks
invariant-blanks l = record {
  same_words : words l.rest ≡ words l.text;
  within : length l.rest ≤ length l.text;
}

abbrev pub decreases-blanks : goal.decreases-blanks
decreases-blanks l = length l.rest
