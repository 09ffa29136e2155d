-- Lists of digits and their numbers.
use Rattle.st_dec.proofs.Common.{◌≡◌, ℕ, zero, suc, ◌+◌, ◌*◌, ◌/◌, ◌%◌, ◌^◌, ◌<◌, ◌≤◌, List, [], ◌∷◌, length, refl, sym, arith, unary_clauses, pow-suc, pow-succ', div-div-eq-div-mul, pow_pos, pow-add, code_at, value_of_digits, digits_of, bytes, number_of_bytes, codes_value, decimal}
use Rattle.std.proofs.Math.Arith.{mod-mul}

-- all digits of the list fit in b bits
abbrev pub AllBelow : ℕ → List ℕ → Type 0
AllBelow b [] = Unit {0}
AllBelow b (d ∷ ds) = (d < 2 ^ b) × AllBelow b ds

-- the power of two for one more digit
pub next_power : (b n : ℕ) → 2 ^ (b * suc n) ≡ 2 ^ (b * n) * 2 ^ b
next_power b n = let more : b * suc n ≡ b * n + b = omega arith in rw (more, pow-add) refl

first_below : (d r w p : ℕ) → d < w → r < p → d + w * r < p * w
first_below d r w p first rest = grind arith

-- n digits of b bits fit in b * n bits
pub joined-below : (b : ℕ) (ds : List ℕ) → AllBelow b ds → number_of_bytes b ds < 2 ^ (b * length ds)
unfolding number_of_bytes
joined-below b [] all = pow_pos (b * 0)
joined-below b (d ∷ ds) all = rw (next_power b (length ds)) (first_below d (number_of_bytes b ds) (2 ^ b) (2 ^ (b * length ds)) all.0 (joined-below b ds all.1))

pub digit_and_rest : (x w p : ℕ) → 0 < w → 0 < p → x % w + w * (x / w % p) ≡ x % (p * w)
digit_and_rest x w p some more = rw (mod-mul x more some) (omega arith)

-- the number of the n bytes of x is x modulo 2 ^ (b * n)
pub joined-bytes : (b n x : ℕ) → number_of_bytes b (bytes b n x) ≡ x % 2 ^ (b * n)
unfolding number_of_bytes bytes
joined-bytes b zero x = simp unary_clauses (omega arith)
joined-bytes b (suc n) x =
    rw (joined-bytes b n (x / 2 ^ b), next_power b n)
    (digit_and_rest x (2 ^ b) (2 ^ (b * n)) (pow_pos b) (pow_pos (b * n)))

-- a code one place further left, in the number without its first digit
code_at-next : (d n : ℕ) → code_at d (suc n) ≡ code_at (d / 16) n
code_at-next d n = rw (pow-succ', div-div-eq-div-mul) refl

-- the value of digits is that of the first digit plus ten times that of the others
pub value_of-first : (n d : ℕ) → value_of_digits (suc n) d ≡ d % 16 + 10 * value_of_digits n (d / 16)
unfolding value_of_digits
value_of-first zero d = omega arith
value_of-first (suc n) d = rw (code_at-next d n, value_of-first n d, pow-suc) (omega arith)

digit_at-next : (v n : ℕ) → v / 10 ^ suc n % 10 ≡ v / 10 / 10 ^ n % 10
digit_at-next v n = rw (pow-succ', div-div-eq-div-mul) refl

digits_of-first : (n v : ℕ) → digits_of (suc n) v ≡ v % 10 + 16 * digits_of n (v / 10)
unfolding digits_of
digits_of-first zero v = omega arith
digits_of-first (suc n) v = rw (digit_at-next v n, digits_of-first n v, pow-suc) (omega arith)

value_of-zero : (n : ℕ) → value_of_digits n 0 ≡ 0
unfolding value_of_digits
value_of-zero zero = refl
value_of-zero (suc n) = rw value_of-first (rw (value_of-zero n) refl)

code_first : (c r : ℕ) → c < 16 → (c + 16 * r) % 16 ≡ c
code_first c r code = omega arith

code_rest : (c r : ℕ) → c < 16 → (c + 16 * r) / 16 ≡ r
code_rest c r code = omega arith

-- the value of a list of codes is the value of the digits of its number
pub value-joined : (n : ℕ) (cs : List ℕ) → AllBelow 4 cs → length cs ≤ n → value_of_digits n (number_of_bytes 4 cs) ≡ codes_value cs
unfolding codes_value number_of_bytes
value-joined n [] all few = value_of-zero n
value-joined zero (c ∷ cs) all few = absurd (omega arith)
value-joined (suc n) (c ∷ cs) all few =
    rw (value_of-first n (c + 16 * number_of_bytes 4 cs), code_first c (number_of_bytes 4 cs) all.0, code_rest c (number_of_bytes 4 cs) all.0, value-joined n cs all.1 (omega arith)) refl

-- the number of the decimal digits of v
pub joined-decimal : (n v : ℕ) → number_of_bytes 4 (decimal n v) ≡ digits_of n v
unfolding number_of_bytes decimal digits_of
joined-decimal zero v = refl
joined-decimal (suc n) v = rw (joined-decimal n (v / 10)) (sym (digits_of-first n v))
