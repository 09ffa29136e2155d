-- Lemmas on the charges of consecutive stages.
use Rattle.st_ledger.proofs.Common.{◌≡◌, ℕ, inl, inr, max, List, ◌∷◌, ◌++◌, refl, arith, StagePart, charges_behind, part_charges}
use Rattle.st_ledger.proofs.ChargeSums.{lt-cases}

-- the charges of the first stage, then those of the others
pub charged-parts : (t : ℕ) (x : StagePart) (xs : List StagePart) → charges_behind t (x ∷ xs) ≡ part_charges t x ++ charges_behind (max t x.end) xs
unfolding charges_behind
charged-parts t x xs = elim (lt-cases t x.end) [
  | inl y ↦
      let top : max t x.end ≡ x.end = omega (arith, y.1) in
      rw (y.0, top) refl
  | inr n ↦
      let top : max t x.end ≡ t = omega (arith, n.1) in
      rw (n.0, top) refl
]
