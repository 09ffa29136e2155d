use Rattle.st_rows.proofs.Common.{◌≡◌, ◌+◌, ◌≤◌, register_uses}
use Rattle.st_rows.proofs.issue.notify.Given as goal

abbrev pub invariant-words : goal.invariant-words
invariant-words g l = record {
  told : g.W.Watch.noted (register_uses l.w l.left) l.watch ≡ g.W.Watch.noted (register_uses l.fn.registers.first l.fn.registers.len) l.fn.watch;
  low : l.w + l.left ≤ l.fn.registers.first + l.fn.registers.len;
}

abbrev pub decreases-words : goal.decreases-words
decreases-words g l = l.left
