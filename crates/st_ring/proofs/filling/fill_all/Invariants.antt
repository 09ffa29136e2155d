use Rattle.st_ring.proofs.Common.{◌≡◌, ℕ, ◌<◌, ◌≤◌, length, Some, Level, level_with_words, PlannedRow}
use Rattle.std.proofs.Common.{slice_get}
use Rattle.st_ring.proofs.filling.fill_all.Given as goal

abbrev pub invariant-filling : goal.invariant-filling
invariant-filling g l =
    (length l.ring ≡ length l.initial.ring)
    × ((i : ℕ) (level : Level) (q : PlannedRow) → i < l.k → slice_get l.initial.ring i ≡ Some level → slice_get l.plans i ≡ Some q
    → slice_get l.ring i ≡ Some (level_with_words q.fills l.state l.now level))
    × ((i : ℕ) → l.k ≤ i → slice_get l.ring i ≡ slice_get l.initial.ring i)
