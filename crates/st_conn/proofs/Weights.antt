-- The list of the bits of a number by weight, with its leading zeros and ones counted.
use Rattle.st_conn.proofs.Common.{◌≡◌, ℕ, zero, suc, ◌+◌, ◌-◌, ◌*◌, ◌%◌, ◌^◌, ◌<◌, ◌≤◌, List, ◌∷◌, sum, refl, sym, ◌∙◌, ap, subst, arith, inl, inr, bit_at, ones, count_leading_zeros, cases_order, mod-pow-add, ones_cat, mod_below, pow_pos, leading_length, bit_at-lt, pow-suc, mod-eq_of_lt, pow_mono, bits, by_weight, leading_zeros}
use Rattle.std.proofs.lemmas.List.Sums.{sum_by-cons}

-- a list by weight of bits that equal those of a number is the list of its bits
pub by_weight-bits : (bit : ℕ → ℕ) (x n : ℕ) → ((j : ℕ) → j < n → bit j ≡ bit_at x j) → by_weight bit n ≡ bits n x
unfolding by_weight bits
by_weight-bits bit x zero h = refl
by_weight-bits bit x (suc n) h =
    ap (λ b. b ∷ by_weight bit n) (h n (omega arith))
    ∙ ap (λ bs. bit_at x n ∷ bs) (by_weight-bits bit x n (λ j lt. h j (omega arith)))

-- the suc n lowest bits of a number are its bit of weight n and the n lowest bits
pub mod-pow-suc : (x n : ℕ) → x % 2 ^ suc n ≡ bit_at x n * 2 ^ n + x % 2 ^ n
mod-pow-suc x n = let more : suc n ≡ 1 + n = omega arith in ap (λ k. x % 2 ^ k) more ∙ mod-pow-add x 1 n

ones-bit : (b : ℕ) → b < 2 → ones b ≡ b
unfolding ones
ones-bit zero h = refl
ones-bit (suc zero) h = refl
ones-bit (suc (suc b)) h = absurd (omega arith)

pub sum-bits : (n x : ℕ) → sum (bits n x) ≡ ones (x % 2 ^ n)
unfolding bits
sum-bits zero x =
    let none : 0 ≡ x % 2 ^ zero = omega arith in
    sym (ones-bit 0 (omega arith)) ∙ ap ones none
sum-bits (suc n) x =
    sum_by-cons (λ y. y) (bit_at x n) (bits n x)
    ∙ ap (λ s. bit_at x n + s) (sum-bits n x)
    ∙ ap (λ b. b + ones (x % 2 ^ n)) (sym (ones-bit (bit_at x n) (bit_at-lt x n)))
    ∙ sym (ones_cat n (bit_at x n) (x % 2 ^ n) (mod_below x (2 ^ n) (pow_pos n)))
    ∙ ap ones (sym (mod-pow-suc x n))

-- a number has m bits without its leading zeros
pub record IsSize (x m : ℕ) : Type 0 where
  pub below : x < 2 ^ m
  pub above : 2 ^ m ≤ 2 * x + 1

not_smaller : (x m k : ℕ) → IsSize x m → IsSize x k → m < k → ⊥
not_smaller x m k s t h =
    let more : 2 ^ suc m ≤ 2 ^ k = pow_mono (omega arith) in
    omega (arith, pow-suc 2 m, more, s.below, t.above)

pub one_size : (x m k : ℕ) → IsSize x m → IsSize x k → m ≡ k
one_size x m k s t =
    elim (cases_order m k) [
      | inl e ↦ e
      | inr d ↦ elim d [ inl h ↦ absurd (not_smaller x m k s t h) | inr h ↦ absurd (not_smaller x k m t s h) ]
    ]

-- one more leading bit
size-cons : (b : ℕ) (bs : List ℕ) (n m r : ℕ) → b < 2 → leading_zeros bs + m ≡ n → r < 2 ^ n → IsSize r m
    → (k : ℕ) × (leading_zeros (b ∷ bs) + k ≡ suc n) × IsSize (b * 2 ^ n + r) k
size-cons zero bs n m r h e fits s =
    let same : 0 * 2 ^ n + r ≡ r = omega arith in
    (m, omega arith, subst (λ (y : ℕ). IsSize y m) (sym same) s)
size-cons (suc zero) bs n m r h e fits s = (
  suc n,
  omega arith,
  record { below = omega (arith, pow-suc 2 n); above = omega (arith, pow-suc 2 n) },
)
size-cons (suc (suc b)) bs n m r h e fits s = absurd (omega arith)

-- a list of bits has as many bits after its leading zeros as its number has
pub leading_zeros-bits : (n x : ℕ) → (m : ℕ) × (leading_zeros (bits n x) + m ≡ n) × IsSize (x % 2 ^ n) m
unfolding bits
leading_zeros-bits zero x = (0, refl, record { below = omega arith; above = omega arith })
leading_zeros-bits (suc n) x =
    let rest = leading_zeros-bits n x in
    let all = size-cons (bit_at x n) (bits n x) n rest.0 (x % 2 ^ n) (bit_at-lt x n) rest.1
    (mod_below x (2 ^ n) (pow_pos n)) rest.2 in
    (all.0, all.1, subst (λ (y : ℕ). IsSize y all.0) (sym (mod-pow-suc x n)) all.2)

-- the leading zeros of a number of n bits, from those of a 64-bit word
pub leading_zeros-word : (n x : ℕ) → n ≤ 64 → x < 2 ^ n
    → count_leading_zeros 64 x ≡ leading_zeros (bits n x) + (64 - n)
leading_zeros-word n x few fits =
    let more : 2 ^ n ≤ 2 ^ 64 = pow_mono few in
    let word = leading_length 64 x (omega arith) in
    let own = leading_zeros-bits n x in
    let size : IsSize x own.0 = subst (λ (y : ℕ). IsSize y own.0) (mod-eq_of_lt fits) own.2 in
    let same : word.0 ≡ own.0 = one_size x word.0 own.0 (record { below = word.2; above = word.3 }) size in
    omega (arith, same, word.1, own.1)
