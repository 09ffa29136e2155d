-- The first number that passes a test, and the leading zeros of a word.
use Rattle.st_state.proofs.Common.{sym, ◌≡◌, ◌≢◌, ℕ, zero, suc, ◌+◌, ◌-◌, ◌/◌, ◌%◌, ◌<◌, ◌≤◌, ◌^◌, Bool, true, false, ◌==◌, ◌&&◌, min, None, Some, refl, ◌∙◌, ap, arith, bit_and, inl, inr, bit_at, eqb_tells, nat_tests, leading_top, le-div, div_below, pow_pos, bit_at_and, bit_at-lt, bit_at_above, bit_at-zero, pow-succ', part, first_from, is_pending}
use Rattle.std.specs.Prelude.{◌⊎◌}
use Rattle.std.specs.Int.Count.{count_leading_zeros}

pub first_from-none : (p : ℕ → Bool) (i n : ℕ) → ((k : ℕ) → p k ≡ false) → first_from p i n ≡ None
unfolding first_from
first_from-none p i zero h = refl
first_from-none p i (suc n) h = rw (h i) (first_from-none p (i + 1) n h)

pub first_from-some : (p : ℕ → Bool) (i n m : ℕ) → i ≤ m → m < i + n → ((k : ℕ) → k < m → p k ≡ false) → p m ≡ true
    → first_from p i n ≡ Some m
unfolding first_from
first_from-some p i zero m low high before here = absurd (omega arith)
first_from-some p i (suc n) m low high before here =
    elim (eqb_tells i m) [
      | inl e ↦
          let at : p i ≡ true = ap p e.1 ∙ here in
          rw at (ap Some e.1)
      | inr ne ↦
          let under : i < m = let other : i ≢ m = ne.1 in omega arith in
          rw (before i under) (first_from-some p (i + 1) n m (omega arith) (omega arith) before here)
    ]

true_or_false : (b : Bool) → (b ≡ true) ⊎ (b ≡ false)
true_or_false true = inl refl
true_or_false false = inr refl

-- the result of first_from passes the test, is in the range, and no earlier number passes
pub first_from-is : (p : ℕ → Bool) (i n m : ℕ) → first_from p i n ≡ Some m
    → (p m ≡ true) × (i ≤ m) × (m < i + n) × ((k : ℕ) → i ≤ k → k < m → p k ≡ false)
unfolding first_from
first_from-is p i zero m e = absurd (cc)
first_from-is p i (suc n) m e =
    elim (true_or_false (p i)) [
      | inl t ↦
          let here : Some i ≡ Some m = rw t at e in
          let same : i ≡ m = cc in
          (sym (ap p same) ∙ t, omega arith, omega arith, λ k low high. absurd (omega arith))
      | inr f ↦
          let later : first_from p (i + 1) n ≡ Some m = rw f at e in
          let rest = first_from-is p (i + 1) n m later in
          let above : i + 1 ≤ m = rest.1 in
          let below : m < i + 1 + n = rest.2 in (
            rest.0,
            omega arith,
            omega arith,
            λ k low high.
                elim (eqb_tells k i) [
                  | inl e ↦ ap p e.1 ∙ f
                  | inr ne ↦
                      let other : k ≢ i = ne.1 in
                      rest.3 k (omega arith) high
                ],
          )
    ]

-- a bit of a word, counted from the right
pub part-bit_at : (x k : ℕ) → part x k 1 ≡ bit_at x (63 - k)
part-bit_at x k =
    let place : 64 - k - 1 ≡ 63 - k = omega arith in
    ap (λ m. x / 2 ^ m % 2) place

both_ones : (a b c : ℕ) → a < 2 → b < 2 → c ≡ min a b → (a == 1 && b == 1) ≡ (c == 1)
both_ones a b c small little e = grind (arith, nat_tests)

-- an indicator is pending if its bit in the conjunction of indicators and mask is one
pub is_pending-and : (x m k : ℕ) → is_pending x m k ≡ (bit_at (bit_and x m) (63 - k) == 1)
is_pending-and x m k =
    ap (λ a. a == 1 && (part m k 1 == 1)) (part-bit_at x k)
    ∙ ap (λ b. (bit_at x (63 - k) == 1) && b == 1) (part-bit_at m k)
    ∙ both_ones _ _ _ (bit_at-lt x (63 - k)) (bit_at-lt m (63 - k)) (bit_at_and x m (63 - k))

-- the highest one bit of a number
pub bit_at-top : (a j : ℕ) → 2 ^ j ≤ a → a < 2 ^ suc j → bit_at a j ≡ 1
bit_at-top a j low high =
    let some : 0 < 2 ^ j = pow_pos j in
    let least : 1 ≤ a / 2 ^ j = le-div 1 a (2 ^ j) some (omega arith) in
    let most : a / 2 ^ j < 2 = div_below a (2 ^ j) 2 some (omega (arith, pow-succ' 2 j)) in
    omega arith

pub leftmost-none : (x m : ℕ) → bit_and x m ≡ 0 → first_from (is_pending x m) 0 64 ≡ None
leftmost-none x m h =
    first_from-none (is_pending x m) 0 64
    (λ k.
    is_pending-and x m k
    ∙ ap (λ a. bit_at a (63 - k) == 1) h
    ∙ ap (λ b. b == 1) (bit_at-zero (63 - k)))

pub leftmost-some : (x m : ℕ) → 0 < bit_and x m → bit_and x m < 2 ^ 64
    → first_from (is_pending x m) 0 64 ≡ Some (count_leading_zeros 64 (bit_and x m))
leftmost-some x m some fits =
    let a = bit_and x m in
    let top = leading_top 64 a some fits in
    let n = count_leading_zeros 64 a in
    let whole : n + suc top.0 ≡ 64 = top.1 in
    let place : 63 - n ≡ top.0 = omega arith in
    first_from-some (is_pending x m) 0 64 n (omega arith) (omega arith)
    (λ k h.
    is_pending-and x m k
    ∙ ap (λ b. b == 1) (bit_at_above a (suc top.0) (63 - k) top.3 (omega arith)))
    (is_pending-and x m n
    ∙ ap (λ i. bit_at a i == 1) place
    ∙ ap (λ b. b == 1) (bit_at-top a top.0 top.2 top.3))
