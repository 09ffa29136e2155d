-- The ticks of a hazard-free run are non-increasing in the number of levels.
use Rattle.st_sweep.proofs.Common.{◌≡◌, ℕ, zero, suc, ◌+◌, ◌≤◌, ◌<◌, true, List, [], ◌∷◌, length, slice_index, sym, ◌∙◌, ap, subst, arith, Scene, is_hazard_free, ticks}
use Rattle.st_sweep.specs.SideBySide.{side_by_side, AreNotRising}
use Rattle.st_sweep.specs.declared.sweeping.Swept.{Swept}
use Rattle.st_sweep.proofs.Segment.{hazard_free-ticks}

-- the values of a function at n numbers from k
values : (ℕ → ℕ) → ℕ → ℕ → List ℕ
values f k zero = []
values f k (suc n) = f k ∷ values f (k + 1) n

value-at : (f : ℕ → ℕ) (k n i : ℕ) → i < n → slice_index (values f k n) i ≡ f (k + i)
unfolding values
value-at f k zero i low = let no : ⊥ = omega arith in absurd no
value-at f k (suc n) zero low =
    let same : k ≡ k + 0 = omega arith in
    ap f same
value-at f k (suc n) (suc i) low =
    let same : k + 1 + i ≡ k + suc i = omega arith in
    value-at f (k + 1) n i (omega arith) ∙ ap f same

not-rising : (ds : List ℕ) (left : ℕ) (c : Scene) → 1 ≤ length ds → is_hazard_free ds left c ≡ true → AreNotRising (side_by_side ds left c).ticks
unfolding values
not-rising ds left c some hazard_free i j low inside =
    let f = λ (n : ℕ). ticks ds n left c in
    let at : (k : ℕ) → k < 8 → slice_index (side_by_side ds left c).ticks k ≡ f (1 + k) = value-at f 1 8 in
    let more = hazard_free-ticks ds (1 + j) (1 + i) left c some (omega arith) hazard_free in
    omega (arith, at i (omega arith), at j inside, more)

pub levels-of : (ds : List ℕ) (left : ℕ) (c : Scene) (x : Swept) → 1 ≤ length ds → x ≡ side_by_side ds left c
    → x.hazard_free ≡ true → AreNotRising x.ticks
levels-of ds left c x some same = subst (λ y. y.hazard_free ≡ true → AreNotRising y.ticks) (sym same) (not-rising ds left c some)
