-- Lemmas on reading the digits of an assembled number.
use Rattle.st_laws.proofs.Common.{lit<, ◌≡◌, ℕ, zero, suc, ◌/◌, ◌%◌, ◌^◌, ◌<◌, ◌≤◌, map, refl, arith, mod-mul-add, div-mul-add, packed_digits, digit-below, bytes, codes_value, digit_and_rest}
use Rattle.std.proofs.Math.Nat.{mod-eq_of_lt, pow-suc}
use Rattle.st_field.proofs.DigitLemmas.{power_above_zero}
use Rattle.st_dec.specs.DigitLists.{decimal}

-- packed digits are the decimal digits, each in one byte
pub bytes-packed : (b n x : ℕ) → 4 ≤ b → bytes b n (packed_digits b n x) ≡ decimal n x
unfolding bytes packed_digits decimal
bytes-packed b zero x wide = refl
bytes-packed b (suc n) x wide =
    let small : x % 10 < 2 ^ b = digit-below b x wide in
    rw (mod-mul-add (packed_digits b n (x / 10)) (2 ^ b) (x % 10) small, div-mul-add (packed_digits b n (x / 10)) (2 ^ b) (x % 10) small, bytes-packed b n (x / 10) wide) refl

-- each digit is its own code
codes-decimal : (n x : ℕ) → map (λ d. d % 16) (decimal n x) ≡ decimal n x
unfolding decimal
codes-decimal zero x = refl
codes-decimal (suc n) x = let code : x % 10 % 16 ≡ x % 10 = omega arith in rw (code, codes-decimal n (x / 10)) refl

-- the value of the digits is the number modulo a power of ten
value-decimal : (n x : ℕ) → codes_value (decimal n x) ≡ x % 10 ^ n
unfolding codes_value decimal
value-decimal zero x = omega arith
value-decimal (suc n) x = rw (value-decimal n (x / 10), pow-suc 10 n) (digit_and_rest x 10 (10 ^ n) (lit< tt) (power_above_zero n))

pub value-packed : (b n x : ℕ) → 4 ≤ b → x < 10 ^ n → codes_value (map (λ d. d % 16) (bytes b n (packed_digits b n x))) ≡ x
value-packed b n x wide few = rw (bytes-packed b n x wide, codes-decimal n x, value-decimal n x) (mod-eq_of_lt few)
