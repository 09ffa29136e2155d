-- The bits of a field and of its last byte, as arithmetic.
use Rattle.std.proofs.Common.{lit<, if◌then◌else◌, ◌||◌, ◌≡◌, ℕ, zero, suc, ◌+◌, ◌-◌, ◌*◌, ◌/◌, ◌%◌, ◌^◌, ◌<◌, ◌≤◌, Bool, true, false, refl, sym, arith, ap, subst, ◌∙◌}
use Rattle.std.proofs.lemmas.Nat.{pow-add}
use Rattle.std.proofs.Math.Pow.{pow_pos, mod-mod-pow}
use Rattle.std.proofs.Math.Nat.{mod-lt, mod-eq_of_lt, pow-le-pow_right}
use Rattle.st_field.specs.declared.fields.Field.{Field}
use Rattle.st_field.specs.declared.fields.Shape.{Shape}
use Rattle.std.proofs.lemmas.Bool.Decides.{nat_tests}
use Rattle.st_field.specs.Numbers.{exceeds}
use Rattle.st_field.specs.Fields.{IsBinaryShape, magnitude_bits, sign_byte, sign_of, last_byte, field_of, field_bits}

-- a property of each byte size from 1 to 8 holds of all byte sizes
pub each_byte : (P : ℕ → Type 0) → P 1 → P 2 → P 3 → P 4 → P 5 → P 6 → P 7 → P 8 → (b : ℕ) → 1 ≤ b → b ≤ 8 → P b
each_byte P p1 p2 p3 p4 p5 p6 p7 p8 zero some small = absurd (omega arith)
each_byte P p1 p2 p3 p4 p5 p6 p7 p8 (suc zero) some small = p1
each_byte P p1 p2 p3 p4 p5 p6 p7 p8 (suc (suc zero)) some small = p2
each_byte P p1 p2 p3 p4 p5 p6 p7 p8 (suc (suc (suc zero))) some small = p3
each_byte P p1 p2 p3 p4 p5 p6 p7 p8 (suc (suc (suc (suc zero)))) some small = p4
each_byte P p1 p2 p3 p4 p5 p6 p7 p8 (suc (suc (suc (suc (suc zero))))) some small = p5
each_byte P p1 p2 p3 p4 p5 p6 p7 p8 (suc (suc (suc (suc (suc (suc zero)))))) some small = p6
each_byte P p1 p2 p3 p4 p5 p6 p7 p8 (suc (suc (suc (suc (suc (suc (suc zero))))))) some small = p7
each_byte P p1 p2 p3 p4 p5 p6 p7 p8 (suc (suc (suc (suc (suc (suc (suc (suc zero)))))))) some small = p8
each_byte P p1 p2 p3 p4 p5 p6 p7 p8 (suc (suc (suc (suc (suc (suc (suc (suc (suc b))))))))) some small = absurd (omega arith)

-- the last byte as the code computes it
pub last_byte-shifted : (x b : ℕ) → 1 ≤ b → b ≤ 8 → x % (1 * 2 ^ b % 2 ^ 64) * 2 ^ (4 - b) % 256 ≡ x % 2 ^ b * 2 ^ (4 - b)
last_byte-shifted x b some small =
    each_byte (λ b. x % (1 * 2 ^ b % 2 ^ 64) * 2 ^ (4 - b) % 256 ≡ x % 2 ^ b * 2 ^ (4 - b))
    (omega arith) (omega arith) (omega arith) (omega arith) (omega arith) (omega arith) (omega arith) (omega arith)
    b some small

-- a sign byte reduced to b bits has b bits
pub sign_byte-cut : (z flags b : ℕ) (minus : Bool) → flags < 8 → 1 ≤ b → b ≤ 8 → sign_byte (z % 2 ^ (b - 4)) minus flags / 2 ^ (4 - b) < 2 ^ b
sign_byte-cut z flags b true few some small =
    each_byte (λ b. sign_byte (z % 2 ^ (b - 4)) true flags / 2 ^ (4 - b) < 2 ^ b)
    (omega arith) (omega arith) (omega arith) (omega arith) (omega arith) (omega arith) (omega arith) (omega arith)
    b some small
sign_byte-cut z flags b false few some small =
    each_byte (λ b. sign_byte (z % 2 ^ (b - 4)) false flags / 2 ^ (4 - b) < 2 ^ b)
    (omega arith) (omega arith) (omega arith) (omega arith) (omega arith) (omega arith) (omega arith) (omega arith)
    b some small

-- a quotient is below a if the number is below a times the divisor
div-below : (x a d : ℕ) → 0 < d → x < a * d → x / d < a
div-below x a d some below = grind arith

-- the bound of a number followed by a digit
pub digit_below : (m r a d : ℕ) → m < a → r < d → m * d + r < a * d
digit_below m r a d front back = grind arith

-- n bits consist of the bits before the last b, and the last b
pub bits_parted : (n b : ℕ) → b ≤ n → 2 ^ n ≡ 2 ^ (n - b) * 2 ^ b
bits_parted n b h =
    let whole : n ≡ n - b + b = omega arith in
    ap (λ k. 2 ^ k) whole ∙ pow-add 2 (n - b) b

-- the bound of the bits before the last b
pub front_below : (x n b : ℕ) → x < 2 ^ n → b ≤ n → x / 2 ^ b < 2 ^ (n - b)
front_below x n b below h = div-below x (2 ^ (n - b)) (2 ^ b) (pow_pos b) (subst (λ k. x < k) (bits_parted n b h) below)

-- the bound of a number followed by b bits
pub joined_below : (m r n b : ℕ) → m < 2 ^ (n - b) → r < 2 ^ b → b ≤ n → m * 2 ^ b + r < 2 ^ n
joined_below m r n b front back h =
    subst (λ k. m * 2 ^ b + r < k) (sym (bits_parted n b h)) (digit_below m r (2 ^ (n - b)) (2 ^ b) front back)

-- the left shift of a number that fits loses no bits
pub shifted_whole : (m n b : ℕ) → m < 2 ^ (n - b) → b ≤ n → n ≤ 64 → m * 2 ^ b % 2 ^ 64 ≡ m * 2 ^ b
shifted_whole m n b front h few =
    let room : m * 2 ^ b + 0 < 2 ^ n = joined_below m 0 n b front (pow_pos b) h in
    let word : 2 ^ n ≤ 2 ^ 64 = pow-le-pow_right {n = 2} (lit< tt) few in
    mod-eq_of_lt (omega arith)

-- the number of magnitude bits of a signed field
pub magnitude_bits-signed : (h : Shape) → h.unsigned ≡ false → magnitude_bits h ≡ h.length - h.byte
magnitude_bits-signed h is = rw is refl

-- the low n bits of the low 128 bits are the low n bits
pub kept : (m t n : ℕ) → m ≡ t % 2 ^ 128 → n ≤ 64 → m % 2 ^ n ≡ t % 2 ^ n
kept m t n is few =
    let whole : 128 - n + n ≡ 128 = omega arith in
    rw is (subst (λ k. t % 2 ^ k % 2 ^ n ≡ t % 2 ^ n) whole (mod-mod-pow t (128 - n) n))

-- a magnitude exceeds n bits if it exceeds 128 bits or its low 128 bits exceed n bits
pub exceeds_kept : (m t n : ℕ) → m ≡ t % 2 ^ 128 → n ≤ 64 → (exceeds t 128 || exceeds m n) ≡ exceeds t n
exceeds_kept m t n is few =
    let small : 2 ^ n ≤ 2 ^ 64 = pow-le-pow_right {n = 2} (lit< tt) few in
    grind (arith, nat_tests)

-- the number of magnitude bits of an unsigned field
pub magnitude_bits-unsigned : (h : Shape) → h.unsigned ≡ true → magnitude_bits h ≡ h.length
magnitude_bits-unsigned h is = rw is refl

-- the sign of a sign byte is the bit of value 8
sign_value : (s : ℕ) → (if sign_of s then 8 else 0) ≡ s / 8 % 2 * 8
sign_value s = grind (arith, nat_tests)

-- a sign byte of b bits, read and written again, is unchanged
last_byte-cut : (r b : ℕ) → 1 ≤ b → b ≤ 8 → r < 2 ^ b → (r * 2 ^ (4 - b) / 16 % 2 ^ (b - 4) * 16 + r * 2 ^ (4 - b) / 8 % 2 * 8 + r * 2 ^ (4 - b) % 8) / 2 ^ (4 - b) ≡ r
last_byte-cut r b some small =
    each_byte (λ b. r < 2 ^ b → (r * 2 ^ (4 - b) / 16 % 2 ^ (b - 4) * 16 + r * 2 ^ (4 - b) / 8 % 2 * 8 + r * 2 ^ (4 - b) % 8) / 2 ^ (4 - b) ≡ r)
    (λ h. omega arith) (λ h. omega arith) (λ h. omega arith) (λ h. omega arith)
    (λ h. omega arith) (λ h. omega arith) (λ h. omega arith) (λ h. omega arith)
    b some small

-- writing the parts that were read from a field gives the same bits
same_by : (u : Bool) (x : ℕ) (h : Shape) → h.unsigned ≡ u → IsBinaryShape h → field_bits (field_of x h) h ≡ x
same_by true x h is shape = rw is refl
same_by false x h is shape =
    let b : ℕ = h.byte in
    let last : x % 2 ^ b < 2 ^ b = mod-lt x (pow_pos b) in
    rw (is, sign_value (last_byte x b), last_byte-cut (x % 2 ^ b) b shape.some_byte shape.small_byte last) (omega arith)

pub field_bits-field_of : (x : ℕ) (h : Shape) → IsBinaryShape h → field_bits (field_of x h) h ≡ x
field_bits-field_of x h shape = same_by h.unsigned x h refl shape

-- the bound of the bits of a field that fits its shape
by_sign : (u : Bool) (g : Field) (h : Shape) → h.unsigned ≡ u → IsBinaryShape h → g.mag < 2 ^ magnitude_bits h → g.flags < 8 → field_bits g h < 2 ^ h.length
by_sign true g h is shape below few = rw is (subst (λ n. g.mag < 2 ^ n) (magnitude_bits-unsigned h is) below)
by_sign false g h is shape below few =
    rw is
    (joined_below _ _ _ _ (subst (λ n. g.mag < 2 ^ n) (magnitude_bits-signed h is) below)
    (sign_byte-cut g.zone g.flags h.byte g.negative few shape.some_byte shape.small_byte) (shape.room is))

pub field_bits-below : (g : Field) (h : Shape) → IsBinaryShape h → g.mag < 2 ^ magnitude_bits h → g.flags < 8 → field_bits g h < 2 ^ h.length
field_bits-below g h shape below few = by_sign h.unsigned g h refl shape below few
