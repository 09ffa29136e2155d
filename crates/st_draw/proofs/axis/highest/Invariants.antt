-- Loop invariant: the highest tick so far, with those of the remaining entries, is the result.
use Rattle.std.proofs.Common.{◌≡◌, max, length}
use Rattle.st_draw.specs.Axis.{highest_tick}
use Rattle.st_draw.proofs.axis.highest.Given as goal

abbrev pub invariant-entries : goal.invariant-entries
invariant-entries l = max l.high (highest_tick l.rest) ≡ highest_tick l.entries

abbrev pub decreases-entries : goal.decreases-entries
decreases-entries l = length l.rest
