use Rattle.st_lines.proofs.Common.{◌≤◌, ◌-◌, WORDS}
use Rattle.st_lines.proofs.ChangeLemmas.{IsCopying}
use Rattle.st_lines.proofs.changes.keep_changed.Given as goal

abbrev pub invariant-words : goal.invariant-words
invariant-words l = record {
  above : 32 ≤ l.w;
  copying : IsCopying l.fn.old.items l.old.items l.state l.w;
}

abbrev pub decreases-words : goal.decreases-words
decreases-words l = WORDS - l.w
