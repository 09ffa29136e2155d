-- A truth table by and, or and not on whole words.
use Rattle.st_conn.proofs.Common.{◌≡◌, ℕ, zero, suc, ◌-◌, ◌*◌, ◌/◌, ◌%◌, ◌^◌, ◌<◌, min, max, sym, ◌∙◌, ap, arith, bit_at, shr_split, bit_at-lt, bit_at_cat_low, bit_at-zero, truth_bit}

-- the low bits of a remainder are those of the number
pub bit_at-mod : (x w i : ℕ) → i < w → bit_at (x % 2 ^ w) i ≡ bit_at x i
bit_at-mod x w i h =
    sym (bit_at_cat_low (x / 2 ^ w) w (x % 2 ^ w) i h) ∙ ap (λ y. bit_at y i) (shr_split x w)

-- a product with 0 or 1 has no bits or all bits
pub bit_at-times : (t x j : ℕ) → t < 2 → bit_at (t * x) j ≡ min t (bit_at x j)
bit_at-times zero x j h =
    let none : 0 * x ≡ 0 = omega arith in
    omega (arith, ap (λ y. bit_at y j) none, bit_at-zero j)
bit_at-times (suc zero) x j h =
    let one : 1 * x ≡ x = omega arith in
    omega (arith, ap (λ y. bit_at y j) one, bit_at-lt x j)
bit_at-times (suc (suc t)) x j h = absurd (omega arith)

-- of the four rows exactly one matches both bits
pub one_row : (table f a : ℕ) → f < 2 → a < 2
    → max
    (max
    (max (min (bit_at table 3) (min (1 - f) (1 - a))) (min (bit_at table 2) (min (1 - f) a)))
    (min (bit_at table 1) (min f (1 - a))))
    (min (bit_at table 0) (min f a))
    ≡ truth_bit table f a
one_row table zero zero p q = omega arith
one_row table zero (suc zero) p q = omega arith
one_row table (suc zero) zero p q = omega arith
one_row table (suc zero) (suc zero) p q = omega arith
one_row table (suc (suc f)) a p q = absurd (omega arith)
one_row table f (suc (suc a)) p q = absurd (omega arith)
