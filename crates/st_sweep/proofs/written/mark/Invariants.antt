use Rattle.st_sweep.proofs.Common.{◌≡◌, ◌+◌, ◌≤◌, length, marks_with}
use Rattle.st_sweep.proofs.written.mark.Given as goal

abbrev pub invariant-words : goal.invariant-words
invariant-words l = record {
  place : l.w + l.left ≡ l.first + l.len;
  few : l.left ≤ l.len;
  long : length l.marks.items ≡ length l.fn.marks.items;
  same : marks_with l.marks.items l.w l.left ≡ marks_with l.fn.marks.items l.first l.len;
}

abbrev pub decreases-words : goal.decreases-words
decreases-words l = l.left
