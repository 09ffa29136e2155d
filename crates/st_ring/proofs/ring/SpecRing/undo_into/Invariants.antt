use Rattle.st_ring.proofs.Common.{◌≡◌, length, unwound}
use Rattle.st_ring.proofs.ring.SpecRing.undo_into.Given as goal

abbrev pub invariant-levels : goal.invariant-levels
invariant-levels g l = unwound l.x l.self ≡ unwound l.initial.x l.initial.self

abbrev pub decreases-levels : goal.decreases-levels
decreases-levels g l = length l.self
