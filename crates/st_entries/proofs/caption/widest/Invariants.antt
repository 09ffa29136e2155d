-- Loop invariant: the width so far, with that of the remaining entries, is the result.
use Rattle.std.proofs.Common.{◌≡◌, ◌≤◌, max, length}
use Rattle.st_entries.specs.Caption.{widest}
use Rattle.st_entries.proofs.caption.widest.Given as goal

abbrev pub invariant-entries : goal.invariant-entries
invariant-entries l = record {
  most : max l.most (widest l.report l.rest) ≡ widest l.report l.entries;
  inside : l.most ≤ 40;
}

abbrev pub decreases-entries : goal.decreases-entries
decreases-entries l = length l.rest
