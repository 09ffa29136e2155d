-- Tables of operations and their numbers.
use Rattle.st_format.proofs.Common.{◌≡◌, ℕ, zero, suc, ◌<◌, ◌==◌, ◌&&◌, Bool, true, false, List, [], ◌∷◌, Some, refl, sym, ◌∙◌, ap, if◌then◌else◌, arith, eqb-true, operation_at}

-- the operation that a table has for a number has that number
pub number-numbered : {A : Type 0} (number : A → ℕ) (ops : List A) (n : ℕ) (x : A)
    → operation_at number ops n ≡ Some x → number x ≡ n
number-numbered number [] n x e = cc
number-numbered {A} number (op ∷ ops) n x e =
    let by : (b : Bool) → (number op == n) ≡ b → (if b then Some op else operation_at number ops n) ≡ Some x → number x ≡ n =
    λ b. elim b as (λ v. (number op == n) ≡ v → (if v then Some op else operation_at number ops n) ≡ Some x → number x ≡ n) [
      | true ↦ λ same found. let one : op ≡ x = cc in ap number (sym one) ∙ eqb-true (number op) n same
      | false ↦ λ _ found. number-numbered number ops n x found
    ] in
    by (number op == n) refl e

-- whether a test holds for all numbers below k
abbrev pub pass_below : (ℕ → Bool) → ℕ → Bool
pass_below test zero = true
pass_below test (suc k) = test k && pass_below test k

and-left : (a b : Bool) → (a && b) ≡ true → a ≡ true
and-left true b h = refl
and-left false b h = h

and-right : (a b : Bool) → (a && b) ≡ true → b ≡ true
and-right true b h = h
and-right false b h = cc

-- a test that holds for all numbers below k holds for each of them
pub passes : (test : ℕ → Bool) (k n : ℕ) → pass_below test k ≡ true → n < k → test n ≡ true
passes test zero n h lt = let no : ⊥ = omega arith in absurd no
passes test (suc k) n h lt =
    let by : (b : Bool) → (n == k) ≡ b → test n ≡ true =
    λ b. elim b as (λ v. (n == k) ≡ v → test n ≡ true) [
      | true ↦ λ same. ap test (eqb-true n k same) ∙ and-left (test k) (pass_below test k) h
      | false ↦ λ other. passes test k n (and-right (test k) (pass_below test k) h) (grind (arith, other))
    ] in
    by (n == k) refl
