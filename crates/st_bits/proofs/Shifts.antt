-- The shifts and masks of the code in arithmetic.
use Rattle.st_bits.proofs.Common.{◌≡◌, ℕ, ◌+◌, ◌-◌, ◌*◌, ◌/◌, ◌%◌, ◌^◌, ◌<◌, ◌≤◌, sym, ◌∙◌, ap, subst, arith, bit_and, bit_or, add-zero, field_of, shr-shr, shl-shr, shr_split, and_block, or_block, or_shifted, and_mask, pow-add, shl_whole, shr_below, mod_below, pow_pos, ones_shr, mod-eq_of_lt}
use Rattle.std.specs.Int.Bits.{or_zero_r}
use Rattle.std.proofs.Math.Pow.{mod-mod-pow, pow_mono}

mask_arith : (whole low_ones low high_ones run : ℕ) → low_ones + low ≡ run → high_ones + run ≡ whole → 0 < low
    → whole - 1 - low_ones ≡ high_ones + (low - 1)
mask_arith whole low_ones low high_ones run e f h = omega arith

regroup : (a b c : ℕ) → a * (b * c) ≡ a * b * c
regroup a b c = omega arith

spread : (a b c d : ℕ) → (a + b) * c + d ≡ a * c + b * c + d
spread a b c d = omega arith

-- n bits that a left shift and a right shift extract
pub run_by_shifts : (x a n k : ℕ) → x * 2 ^ a % 2 ^ (n + (a + k)) / 2 ^ (a + k) ≡ x / 2 ^ k % 2 ^ n
run_by_shifts x a n k =
    field_of (x * 2 ^ a) n (a + k)
    ∙ ap (λ y. y % 2 ^ n) (sym (shr-shr (x * 2 ^ a) a k) ∙ ap (λ y. y / 2 ^ k) (shl-shr x a))

-- n bits of a 64-bit word that a left shift and a right shift extract
pub run_of_word : (x a n : ℕ) → a + n ≤ 64 → x * 2 ^ a % 2 ^ 64 / 2 ^ (64 - n) ≡ x / 2 ^ (64 - a - n) % 2 ^ n
run_of_word x a n h =
    let back : 64 - n ≡ a + (64 - a - n) = omega arith in
    let whole : 64 ≡ n + (a + (64 - a - n)) = omega arith in
    ap (λ m. x * 2 ^ a % 2 ^ m / 2 ^ (64 - n)) whole
    ∙ ap (λ m. x * 2 ^ a % 2 ^ (n + (a + (64 - a - n))) / 2 ^ m) back
    ∙ run_by_shifts x a n (64 - a - n)

-- a number of a + n + k bits with the n bits above the last k cleared
pub without_run : (a n k x : ℕ) → x < 2 ^ (a + (n + k))
    → bit_and x ((2 ^ a - 1) * 2 ^ (n + k) + (2 ^ k - 1)) ≡ x / 2 ^ (n + k) * 2 ^ (n + k) + x % 2 ^ k
without_run a n k x h =
    let more : 2 ^ k ≤ 2 ^ (n + k) = pow_mono (omega arith) in
    let low : 2 ^ k - 1 < 2 ^ (n + k) = omega (arith, more, pow_pos k) in
    let below : x / 2 ^ (n + k) < 2 ^ a = shr_below x a (n + k) h in
    let high : x / 2 ^ (n + k) % 2 ^ a ≡ x / 2 ^ (n + k) = mod-eq_of_lt below in
    ap (λ y. bit_and y ((2 ^ a - 1) * 2 ^ (n + k) + (2 ^ k - 1))) (sym (shr_split x (n + k)))
    ∙ and_block (n + k) (x / 2 ^ (n + k)) (2 ^ a - 1) (x % 2 ^ (n + k)) (2 ^ k - 1) (mod_below _ _ (pow_pos (n + k))) low
    ∙ ap (λ y. y * 2 ^ (n + k) + bit_and (x % 2 ^ (n + k)) (2 ^ k - 1)) (and_mask (x / 2 ^ (n + k)) a ∙ high)
    ∙ ap (λ y. x / 2 ^ (n + k) * 2 ^ (n + k) + y) (and_mask (x % 2 ^ (n + k)) k ∙ mod-mod-pow x n k)

-- 2 ^ n - 1 plus one, as multiples of m
pub ones_and_one : (n m : ℕ) → (2 ^ n - 1) * m + m ≡ 2 ^ n * m
ones_and_one n m =
    let some : (2 ^ n - 1) + 1 ≡ 2 ^ n = let some : 0 < 2 ^ n = pow_pos n in omega arith in
    let split : ((2 ^ n - 1) + 1) * m ≡ (2 ^ n - 1) * m + m = omega arith in
    sym split ∙ ap (λ p. p * m) some

-- the complement of the mask of n ones above k places, in a number of a + n + k bits
pub mask_turned : (a n k : ℕ)
    → 2 ^ (a + (n + k)) - 1 - (2 ^ n - 1) * 2 ^ k ≡ (2 ^ a - 1) * 2 ^ (n + k) + (2 ^ k - 1)
mask_turned a n k =
    let outer : 2 ^ (a + (n + k)) ≡ 2 ^ a * 2 ^ (n + k) = pow-add 2 a (n + k) in
    let inner : 2 ^ (n + k) ≡ 2 ^ n * 2 ^ k = pow-add 2 n k in
    let left : (2 ^ n - 1) * 2 ^ k + 2 ^ k ≡ 2 ^ (n + k) = ones_and_one n (2 ^ k) ∙ sym inner in
    let right : (2 ^ a - 1) * 2 ^ (n + k) + 2 ^ (n + k) ≡ 2 ^ (a + (n + k)) =
    ones_and_one a (2 ^ (n + k)) ∙ sym outer in
    mask_arith _ _ _ _ _ left right (pow_pos k)

-- n bits of a number replaced by v
pub run_replaced : (a n k x v : ℕ) → x < 2 ^ (a + (n + k)) → v < 2 ^ n
    → bit_or (bit_and x (2 ^ (a + (n + k)) - 1 - (2 ^ n - 1) * 2 ^ k)) (v * 2 ^ k)
    ≡ x / 2 ^ (n + k) * 2 ^ (n + k) + v * 2 ^ k + x % 2 ^ k
run_replaced a n k x v h small =
    let high = x / 2 ^ (n + k) in
    let low = x % 2 ^ k in
    let inner : 2 ^ (n + k) ≡ 2 ^ n * 2 ^ k = pow-add 2 n k in
    let part : high * 2 ^ (n + k) ≡ high * 2 ^ n * 2 ^ k = ap (λ p. high * p) inner ∙ regroup high (2 ^ n) (2 ^ k) in
    ap (λ m. bit_or (bit_and x m) (v * 2 ^ k)) (mask_turned a n k)
    ∙ ap (λ y. bit_or y (v * 2 ^ k)) (without_run a n k x h)
    ∙ ap (λ y. bit_or (y + low) (v * 2 ^ k)) part
    ∙ ap (λ y. bit_or (high * 2 ^ n * 2 ^ k + low) y) (sym (add-zero (v * 2 ^ k)))
    ∙ or_block k (high * 2 ^ n) v low 0 (mod_below _ _ (pow_pos k)) (pow_pos k)
    ∙ ap (λ y. bit_or (high * 2 ^ n) v * 2 ^ k + y) (or_zero_r low)
    ∙ ap (λ y. y * 2 ^ k + low) (or_shifted high n v small)
    ∙ spread (high * 2 ^ n) v (2 ^ k) low
    ∙ ap (λ y. y + v * 2 ^ k + low) (sym part)

-- n bits of a 64-bit word replaced by v, with the masks of the code
pub run_of_word_replaced : (x a n v : ℕ) → x < 2 ^ 64 → 1 ≤ n → a + n ≤ 64 → v < 2 ^ n
    → bit_or
    (bit_and x ((2 ^ 64 - 1) - (2 ^ 64 - 1) / 2 ^ (64 - n) * 2 ^ (64 - a - n) % 2 ^ 64))
    (v * 2 ^ (64 - a - n) % 2 ^ 64)
    ≡ x / 2 ^ (64 - a) * 2 ^ (64 - a) + v * 2 ^ (64 - a - n) + x % 2 ^ (64 - a - n)
run_of_word_replaced x a n v h some inside small =
    let k = 64 - a - n in
    let whole : a + (n + k) ≡ 64 = omega arith in
    let back : 64 - (64 - n) ≡ n = omega arith in
    let tail : 64 - a ≡ n + k = omega arith in
    let ones : (2 ^ 64 - 1) / 2 ^ (64 - n) ≡ 2 ^ n - 1 =
    ones_shr 64 (64 - n) (omega arith) ∙ ap (λ m. 2 ^ m - 1) back in
    let fits : 2 ^ n - 1 < 2 ^ n = let some : 0 < 2 ^ n = pow_pos n in omega arith in
    let room : n + k ≤ 64 = omega arith in
    let mask : (2 ^ 64 - 1) / 2 ^ (64 - n) * 2 ^ k % 2 ^ 64 ≡ (2 ^ n - 1) * 2 ^ k =
    ap (λ m. m * 2 ^ k % 2 ^ 64) ones ∙ shl_whole (2 ^ n - 1) n k 64 fits room in
    let placed : v * 2 ^ k % 2 ^ 64 ≡ v * 2 ^ k = shl_whole v n k 64 small room in
    let width : 2 ^ 64 ≡ 2 ^ (a + (n + k)) = ap (λ m. 2 ^ m) (sym whole) in
    let bound : x < 2 ^ (a + (n + k)) = let P : ℕ → Type 0 = λ m. x < m in subst P width h in
    ap (λ m. bit_or (bit_and x ((2 ^ 64 - 1) - m)) (v * 2 ^ k % 2 ^ 64)) mask
    ∙ ap (λ m. bit_or (bit_and x ((2 ^ 64 - 1) - (2 ^ n - 1) * 2 ^ k)) m) placed
    ∙ ap (λ m. bit_or (bit_and x ((m - 1) - (2 ^ n - 1) * 2 ^ k)) (v * 2 ^ k)) width
    ∙ run_replaced a n k x v bound small
    ∙ ap (λ m. x / 2 ^ m * 2 ^ m + v * 2 ^ k + x % 2 ^ k) (sym tail)
