-- Decimal digits and their value, one place at a time.
use Rattle.std.proofs.Common.{inl, inr, lit≤, lit<, ◌≡◌, ◌≢◌, ℕ, zero, suc, ◌+◌, ◌-◌, ◌*◌, ◌/◌, ◌%◌, ◌^◌, ◌<◌, ◌≤◌, refl, sym, ap, arith, add-one, ◌∙◌}
use native.Mathlib.Numerals.{unary_clauses}
use Rattle.std.proofs.lemmas.Bool.{cases_lt}
use Rattle.std.proofs.lemmas.Nat.{pow-add, div-mul-add}
use Rattle.std.proofs.Math.Nat.{pow-suc, pow-succ', mul-le-mul, pow-le-pow_right, div-div-eq-div-mul, mod-eq_of_lt, add-mul-div_right, add-mul-mod_self_right, zero-div, div-eq_of_lt}
use Rattle.std.proofs.Math.Arith.{mod-mul}
use Rattle.st_field.specs.Digits.{code_at, value_of_digits, digits_of}
use Rattle.st_field.proofs.FieldLemmas.{digit_below}

-- a power with an exponent one greater
pub power_suc : (b n : ℕ) → b ^ (n + 1) ≡ b ^ n * b
power_suc b n = rw (add-one, pow-suc) refl

-- powers are above 0
power_some : (b n : ℕ) → 1 ≤ b → 1 ≤ b ^ n
power_some b zero some = simp unary_clauses (lit≤ tt)
power_some b (suc n) some = rw pow-suc (mul-le-mul (power_some b n some) some)

-- a power of 16 as a power of two
pub power_16 : (n : ℕ) → 2 ^ (4 * n) ≡ 16 ^ n
power_16 zero = refl
power_16 (suc n) =
    let next : 4 * suc n ≡ 4 * n + 4 = omega arith in
    rw (next, pow-add 2 (4 * n) 4, pow-suc 16 n) (ap (λ k. k * 16) (power_16 n))

-- the value of n + 1 digits, from the value of n digits
pub value_of-next : (d n v rest weight : ℕ) → v ≡ value_of_digits n d → rest ≡ d / 16 ^ n → weight ≡ 10 ^ n → v + rest % 16 * weight ≡ value_of_digits (n + 1) d
unfolding value_of_digits
value_of-next d n v rest weight is left is_weight = rw (add-one, is, left, is_weight) (omega arith)

-- the rest of a number after one more digit in base b
pub rest-next : (d b n : ℕ) → d / b ^ n / b ≡ d / b ^ (n + 1)
rest-next d b n = rw (div-div-eq-div-mul, power_suc) refl

bound-next : (c v p : ℕ) → c < 16 → 3 * v + 5 ≤ 5 * p → 3 * (c * p + v) + 5 ≤ 5 * (p * 10)
bound-next c v p code below = grind arith

-- the value of n digits of four bits is at most five thirds of 10 ^ n
pub value_of-bound : (n d : ℕ) → 3 * value_of_digits n d + 5 ≤ 5 * 10 ^ n
unfolding value_of_digits
value_of-bound zero d = omega arith
value_of-bound (suc n) d = rw pow-suc (bound-next (code_at d n) (value_of_digits n d) (10 ^ n) (omega arith) (value_of-bound n d))

-- the first n + 1 digits of a number, from the first n
pub digits_of-next : (v n digits rest : ℕ) → digits ≡ digits_of n v → rest ≡ v / 10 ^ n → digits + rest % 10 * 16 ^ n ≡ digits_of (n + 1) v
unfolding digits_of
digits_of-next v n digits rest is left = rw (add-one, is, left) (omega arith)

-- n digits are below 16 ^ n
pub digits_of-below : (n v : ℕ) → digits_of n v < 16 ^ n
unfolding digits_of
digits_of-below zero v = omega arith
digits_of-below (suc n) v =
    rw pow-succ' (digit_below (v / 10 ^ n % 10) (digits_of n v) 16 (16 ^ n) (omega arith) (digits_of-below n v))

-- a digit's code does not depend on higher digits
code_before : (x r p : ℕ) → 0 < p → (x * 16 * p + r) / p % 16 ≡ r / p % 16
code_before x r p some =
    let swapped : x * 16 * p + r ≡ r + x * 16 * p = omega arith in
    rw (swapped, add-mul-div_right r (x * 16) some, add-mul-mod_self_right) refl

code_at-low : (m n c r : ℕ) → m < n → code_at (c * 16 ^ n + r) m ≡ code_at r m
code_at-low m n c r low =
    let split : n ≡ n - suc m + 1 + m = omega arith in
    let power : 16 ^ n ≡ 16 ^ (n - suc m) * 16 * 16 ^ m = ap (λ k. 16 ^ k) split ∙ pow-add 16 (n - suc m + 1) m ∙ ap (λ k. k * 16 ^ m) (power_suc 16 (n - suc m)) in
    let moved : c * 16 ^ n ≡ c * 16 ^ (n - suc m) * 16 * 16 ^ m = rw power (omega arith) in
    rw moved (code_before (c * 16 ^ (n - suc m)) r (16 ^ m) (power_some 16 m (omega arith)))

-- the value of the first m digits does not depend on higher codes
value_of-low : (m n c r : ℕ) → m ≤ n → value_of_digits m (c * 16 ^ n + r) ≡ value_of_digits m r
unfolding value_of_digits
value_of-low zero n c r few = refl
value_of-low (suc m) n c r few =
    rw (code_at-low m n c r (omega arith), value_of-low m n c r (omega arith)) refl

-- the code of a leading decimal digit
code_top : (c r p : ℕ) → c < 10 → r < p → (c * p + r) / p % 16 ≡ c
code_top c r p digit below = rw (div-mul-add c p r below) (mod-eq_of_lt (omega arith))

-- the value of the first n digits of a number is the number modulo 10 ^ n
pub value_of-digits : (n v : ℕ) → value_of_digits n (digits_of n v) ≡ v % 10 ^ n
unfolding value_of_digits digits_of
value_of-digits zero v = omega arith
value_of-digits (suc n) v =
    let c : ℕ = v / 10 ^ n % 10 in
    let code : code_at (c * 16 ^ n + digits_of n v) n ≡ c = code_top c (digits_of n v) (16 ^ n) (omega arith) (digits_of-below n v) in
    let low : value_of_digits n (c * 16 ^ n + digits_of n v) ≡ v % 10 ^ n = value_of-low n n c (digits_of n v) (omega arith) ∙ value_of-digits n v in
    let both : v % (10 * 10 ^ n) ≡ c * 10 ^ n + v % 10 ^ n = mod-mul v (omega arith) (power_some 10 n (omega arith)) in
    rw (code, low, pow-succ', both) refl

-- powers of ten with an exponent of at most 32 fit in 128 bits
pub power_fits : (n : ℕ) → n ≤ 32 → 10 ^ n < 2 ^ 128
power_fits n few =
    let power : 10 ^ n ≤ 10 ^ 32 = pow-le-pow_right {n = 10} (lit< tt) few in
    omega arith

pub power_above_zero : (n : ℕ) → 0 < 10 ^ n
power_above_zero n = power_some 10 n (omega arith)

-- the bounds of powers of ten
pub ruleset power_rules = (power_fits, power_above_zero)

-- ---- numbers whose digits are all zero from a place

rest-none : (d b n k : ℕ) → d / b ^ n ≡ 0 → d / b ^ (n + k) ≡ 0
rest-none d b n k h =
    let step : d / b ^ n / b ^ k ≡ d / b ^ (n + k) = rw (div-div-eq-div-mul, pow-add) refl in
    sym step ∙ ap (λ q. q / b ^ k) h ∙ zero-div (b ^ k)

value_of-none : (d n k : ℕ) → d / 16 ^ n ≡ 0 → value_of_digits (n + k) d ≡ value_of_digits n d
unfolding value_of_digits
value_of-none d n zero h = let same : n + 0 ≡ n = omega arith in ap (λ m. value_of_digits m d) same
value_of-none d n (suc k) h =
    let next : n + suc k ≡ suc (n + k) = omega arith in
    let none : d / 16 ^ (n + k) ≡ 0 = rest-none d 16 n k h in
    let rest : value_of_digits (n + k) d ≡ value_of_digits n d = value_of-none d n k h in
    ap (λ m. value_of_digits m d) next ∙ rw none (omega (arith, rest))

-- if the rest of 128 bits after n digits is not zero, n is less than 32
pub some-left : (d n : ℕ) → d < 2 ^ 128 → d / 16 ^ n ≢ 0 → n < 32
some-left d n bound left = elim (cases_lt n 32) [
  | inl few ↦ few
  | inr all ↦
      let power : 16 ^ 32 ≤ 16 ^ n = pow-le-pow_right {n = 16} (lit< tt) all in
      absurd (left (div-eq_of_lt (omega (arith, power, bound))))
]

-- the value of 32 digits is the value of the first n if the rest is zero
pub value_of-stop : (d n : ℕ) → n ≤ 32 → d / 16 ^ n ≡ 0 → value_of_digits 32 d ≡ value_of_digits n d
value_of-stop d n few h =
    let all : 32 ≡ n + (32 - n) = omega arith in ap (λ m. value_of_digits m d) all ∙ value_of-none d n (32 - n) h

digits_of-none : (v n k : ℕ) → v / 10 ^ n ≡ 0 → digits_of (n + k) v ≡ digits_of n v
unfolding digits_of
digits_of-none v n zero h = let same : n + 0 ≡ n = omega arith in ap (λ m. digits_of m v) same
digits_of-none v n (suc k) h =
    let next : n + suc k ≡ suc (n + k) = omega arith in
    let none : v / 10 ^ (n + k) ≡ 0 = rest-none v 10 n k h in
    let rest : digits_of (n + k) v ≡ digits_of n v = digits_of-none v n k h in
    ap (λ m. digits_of m v) next ∙ rw none (omega (arith, rest))

-- the 32 digits of a number are its first n digits if the rest is zero
pub digits_of-stop : (v n : ℕ) → n ≤ 32 → v / 10 ^ n ≡ 0 → digits_of 32 v ≡ digits_of n v
digits_of-stop v n few h =
    let all : 32 ≡ n + (32 - n) = omega arith in ap (λ m. digits_of m v) all ∙ digits_of-none v n (32 - n) h
