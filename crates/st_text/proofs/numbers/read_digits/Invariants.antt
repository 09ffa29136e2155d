use Rattle.st_text.proofs.Common.{◌≡◌, ◌≤◌, min, length, is_ascii_digit, list_all, digits_value, value_after}
use Rattle.st_text.proofs.numbers.read_digits.Given as goal

abbrev pub invariant-digits : goal.invariant-digits
invariant-digits l = record {
  capped : l.number ≤ l.cap;
  same_test : list_all is_ascii_digit l.rest ≡ list_all is_ascii_digit l.text;
  same_value : min (value_after l.number l.rest) l.cap ≡ min (digits_value l.text) l.cap;
}

abbrev pub decreases-digits : goal.decreases-digits
decreases-digits l = length l.rest
