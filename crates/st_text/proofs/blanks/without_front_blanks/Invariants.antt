use Rattle.st_text.proofs.Common.{◌≡◌, ◌≤◌, length, without_front_blanks}
use Rattle.st_text.proofs.blanks.without_front_blanks.Given as goal

abbrev pub invariant-blanks : goal.invariant-blanks
invariant-blanks l = record {
  same : without_front_blanks l.rest ≡ without_front_blanks l.text;
  shorter : length l.rest ≤ length l.text;
}

abbrev pub decreases-blanks : goal.decreases-blanks
decreases-blanks l = length l.rest
