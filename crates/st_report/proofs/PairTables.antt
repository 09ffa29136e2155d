-- Tables with two digits for each number.
use Rattle.st_report.proofs.Common.{zero, suc, true, inl, inr, ◌+◌, ◌*◌, ◌/◌, ◌%◌, ◌<◌, get_or, ◌≡◌, ℕ, List, arith}
use Rattle.std.specs.Prelude.{Bool, nat_eq, ◌&&◌}
use Rattle.std.proofs.lemmas.Bool.{and_parts}
use Rattle.std.proofs.lemmas.Bool.Decides.{eqb_tells, nat_tests}

-- the first n rows are the digits of 0, 1, .. in this base
abbrev pub are_pairs : (ℕ → ℕ) → ℕ → List ℕ → ℕ → Bool
are_pairs digit base table zero = true
are_pairs digit base table (suc p) =
    (nat_eq (get_or table (p * 2) 0) (digit (p / base)) && nat_eq (get_or table (p * 2 + 1) 0) (digit (p % base)))
    && are_pairs digit base table p

same : (a b : ℕ) → nat_eq a b ≡ true → a ≡ b
same a b h = grind (arith, nat_tests, h)

-- each row is the digits of its number
pub pair-at : (digit : ℕ → ℕ) (base : ℕ) (table : List ℕ) (n p : ℕ) → are_pairs digit base table n ≡ true → p < n
    → (get_or table (p * 2) 0 ≡ digit (p / base)) × (get_or table (p * 2 + 1) 0 ≡ digit (p % base))
pair-at digit base table zero p are few = absurd (omega arith)
pair-at digit base table (suc n) p are few =
    let parts = and_parts _ (are_pairs digit base table n) are in
    elim (eqb_tells p n) [
      | inl e ↦ let both = and_parts _ _ parts.0 in rw (e.1) (same _ _ both.0, same _ _ both.1)
      | inr e ↦ pair-at digit base table n p parts.1 (omega (arith, e.1))
    ]
