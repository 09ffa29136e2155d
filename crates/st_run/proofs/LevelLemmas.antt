-- The levels of the ring buffer, and the entries in flight.
use Rattle.st_run.proofs.Common.{map, AllZip, ◌≡◌, ℕ, List, [], ◌∷◌, refl, ◌∙◌, ap, Ahead, IsLevelOf, address_ahead}
use Rattle.st_prep.specs.declared.entries.Prepared.{Prepared}
use Rattle.st_ring.specs.declared.level.Level.{Level}

abbrev pub level_row : Level → ℕ × ℕ
level_row v = (v.prepared.place.address, v.p)

abbrev pub ahead_row : Ahead → ℕ × ℕ
ahead_row a = (address_ahead a, a.row.p)

abbrev pair_of : ℕ → ℕ → ℕ × ℕ
pair_of x y = (x, y)

same-level : (ds : List ℕ) (n tick : ℕ) (v : Level) (a : Ahead) → IsLevelOf ds n tick v a → level_row v ≡ ahead_row a
same-level ds n tick v a is =
    let first = λ (p : Prepared). pair_of p.place.address v.p in
    ap first is.prepared ∙ ap (pair_of (address_ahead a)) is.p

pub same-levels : (ds : List ℕ) (n tick : ℕ) (vs : List Level) (xs : List Ahead) → AllZip (IsLevelOf ds n tick) vs xs
    → map level_row vs ≡ map ahead_row xs
same-levels ds n tick [] [] is = refl
same-levels ds n tick [] (x ∷ xs) is = absurd is
same-levels ds n tick (v ∷ vs) [] is = absurd is
same-levels ds n tick (v ∷ vs) (x ∷ xs) is =
    ap (λ p. p ∷ map level_row vs) (same-level ds n tick v x is.0)
    ∙ ap (λ ps. ahead_row x ∷ ps) (same-levels ds n tick vs xs is.1)
