-- Updates of the indicators bit by bit.
use Rattle.st_state.proofs.Common.{◌≡◌, ◌≢◌, ℕ, zero, suc, ◌+◌, ◌-◌, ◌*◌, ◌<◌, ◌^◌, min, max, sym, ◌∙◌, ap, subst, arith, bit_and, bit_or, w64, inl, inr, bit_at, nat_tests, eqb_tells, or_lt, and_le_l, mul-le, mod-eq_of_lt, pow-succ', bit_at-lt, bit_at_and, bit_at_or, bit_at_not, bit_at_cat_low, bit_at_cat_high, bit_at_lowest, same_from_bits_below, indicator_word, turned_bit}

pub turned_bit_below : (on off was : ℕ) → was < 2 → turned_bit on off was < 2
turned_bit_below on off was h = grind (arith, nat_tests)

pub one_more : (b p t r : ℕ) → b < 2 → t < p → r ≡ 2 * p → b * p + t < r
one_more b p t r small below e = omega (arith, mul-le b p 1 p (omega arith) (omega arith))

pub turned_below : (n on off x : ℕ) → indicator_word n on off x < 2 ^ n
unfolding indicator_word
turned_below zero on off x = omega arith
turned_below (suc n) on off x =
    one_more _ _ _ _ (turned_bit_below (bit_at on n) (bit_at off n) _ (bit_at-lt x n)) (turned_below n on off x) (pow-succ' 2 n)

pub bit_at-turned : (n on off x i : ℕ) → i < n
    → bit_at (indicator_word n on off x) i ≡ turned_bit (bit_at on i) (bit_at off i) (bit_at x i)
unfolding indicator_word
bit_at-turned zero on off x i h = absurd (omega arith)
bit_at-turned (suc n) on off x i h =
    let here = turned_bit (bit_at on n) (bit_at off n) (bit_at x n) in
    let rest = indicator_word n on off x in
    let below : rest < 2 ^ n = turned_below n on off x in
    let single : here < 2 = turned_bit_below (bit_at on n) (bit_at off n) _ (bit_at-lt x n) in
    elim (eqb_tells i n) [
      | inl e ↦
          let Q : ℕ → Type 0 =
          λ k. bit_at (here * 2 ^ n + rest) k ≡ turned_bit (bit_at on k) (bit_at off k) (bit_at x k) in
          let first : n - n ≡ 0 = omega arith in
          subst Q (sym e.1)
          (bit_at_cat_high here n rest n below (omega arith)
          ∙ ap (λ k. bit_at here k) first
          ∙ bit_at_lowest here
          ∙ mod-eq_of_lt single)
      | inr ne ↦
          let under : i < n = let other : i ≢ n = ne.1 in omega arith in
          bit_at_cat_low here n rest i under ∙ bit_at-turned n on off x i under
    ]

-- the update of an indicator by and, or and not
pub turned_bit_is : (on off was : ℕ) → on < 2 → off < 2 → was < 2
    → max (min was (1 - off)) on ≡ turned_bit on off was
turned_bit_is on off was h k l = grind (arith, nat_tests)

pub turned-masks : (on off x : ℕ) → on < 2 ^ 64 → off < 2 ^ 64 → x < 2 ^ 64
    → bit_or (bit_and x (2 ^ 64 - 1 - off)) on ≡ indicator_word 64 on off x
turned-masks on off x on_fits off_fits fits =
    same_from_bits_below 64 _ _
    (or_lt 64 (bit_and x (2 ^ 64 - 1 - off)) on (omega (arith, and_le_l x (2 ^ 64 - 1 - off))) on_fits)
    (turned_below 64 on off x)
    (λ i h.
    bit_at_or (bit_and x (2 ^ 64 - 1 - off)) on i
    ∙ ap (λ y. max y (bit_at on i)) (bit_at_and x (2 ^ 64 - 1 - off) i)
    ∙ ap (λ y. max (min (bit_at x i) y) (bit_at on i)) (bit_at_not w64 off i off_fits h)
    ∙ turned_bit_is _ _ _ (bit_at-lt on i) (bit_at-lt off i) (bit_at-lt x i)
    ∙ sym (bit_at-turned 64 on off x i h))
