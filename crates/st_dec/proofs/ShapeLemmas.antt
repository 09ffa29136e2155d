-- The number of digits of a field.
use Rattle.st_dec.proofs.Common.{◌≡◌, ℕ, ◌-◌, ◌*◌, ◌/◌, ◌%◌, ◌≤◌, arith, Bool, true, false, if◌then◌else◌, Shape, magnitude_bits, IsDecimalShape, digit_count}
use Rattle.st_field.proofs.FieldLemmas.{each_byte}

pub few : (m b : ℕ) → 1 ≤ b → b ≤ 8 → 4 ≤ b → m ≤ 64 → m / b ≤ 16
few m b =
    each_byte (λ b. 4 ≤ b → m ≤ 64 → m / b ≤ 16)
    (λ h g. omega arith) (λ h g. omega arith) (λ h g. omega arith) (λ h g. omega arith)
    (λ h g. omega arith) (λ h g. omega arith) (λ h g. omega arith) (λ h g. omega arith) b

pub whole : (n b : ℕ) → 1 ≤ b → b ≤ 8 → n % b ≡ 0 → b * (n / b) ≡ n
whole n b =
    each_byte (λ b. n % b ≡ 0 → b * (n / b) ≡ n)
    (λ h. omega arith) (λ h. omega arith) (λ h. omega arith) (λ h. omega arith)
    (λ h. omega arith) (λ h. omega arith) (λ h. omega arith) (λ h. omega arith) b

pub whole_front : (n b : ℕ) → 1 ≤ b → b ≤ 8 → n % b ≡ 0 → b * ((n - b) / b) ≡ n - b
whole_front n b =
    each_byte (λ b. n % b ≡ 0 → b * ((n - b) / b) ≡ n - b)
    (λ h. omega arith) (λ h. omega arith) (λ h. omega arith) (λ h. omega arith)
    (λ h. omega arith) (λ h. omega arith) (λ h. omega arith) (λ h. omega arith) b

pub ruleset count_rules = (few, whole, whole_front)

bits_small : (u : Bool) (n b : ℕ) → n ≤ 64 → (if u then n else n - b) ≤ 64
bits_small true n b small = small
bits_small false n b small = omega arith

bits_whole : (u : Bool) (n b : ℕ) → 1 ≤ b → b ≤ 8 → n % b ≡ 0 → b * ((if u then n else n - b) / b) ≡ (if u then n else n - b)
bits_whole true n b some small = whole n b some small
bits_whole false n b some small = whole_front n b some small

-- the size of the magnitude by the number of digits
pub magnitude-small : (h : Shape) → IsDecimalShape h → magnitude_bits h ≤ 64
magnitude-small h is = bits_small h.unsigned h.length h.byte is.shape.few

pub count-few : (h : Shape) → IsDecimalShape h → digit_count h ≤ 16
count-few h is = few (magnitude_bits h) h.byte is.shape.some_byte is.shape.small_byte is.code (magnitude-small h is)

pub digits-whole : (h : Shape) → IsDecimalShape h → h.byte * digit_count h ≡ magnitude_bits h
digits-whole h is = bits_whole h.unsigned h.length h.byte is.shape.some_byte is.shape.small_byte is.whole
