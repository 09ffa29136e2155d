-- Loop invariant: the lowest tick so far, with those of the remaining entries, is the result.
use Rattle.std.proofs.Common.{◌≡◌, ◌≤◌, ◌-◌, ◌^◌, min, length}
use Rattle.st_draw.specs.Axis.{lowest_tick}
use Rattle.st_draw.proofs.axis.lowest.Given as goal

abbrev pub invariant-entries : goal.invariant-entries
invariant-entries l = record {
  least : min l.low (lowest_tick l.rest) ≡ lowest_tick l.entries;
  fits : l.low ≤ 2 ^ 64 - 1;
}

abbrev pub decreases-entries : goal.decreases-entries
decreases-entries l = length l.rest
