use Rattle.st_sweep.proofs.Common.{◌≡◌, ◌+◌, List, WordRuns, are_written, AreMarks}
use Rattle.st_sweep.proofs.written.has_mark.Given as goal

abbrev pub invariant-words : goal.invariant-words
invariant-words l = record {
  place : l.w + l.left ≡ l.first + l.len;
  same : (earlier : List WordRuns) → AreMarks earlier l.marks → are_written earlier l.w l.left ≡ are_written earlier l.first l.len;
}

abbrev pub decreases-words : goal.decreases-words
decreases-words l = l.left
