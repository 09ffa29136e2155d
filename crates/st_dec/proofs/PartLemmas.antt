-- The digits of fields and of the accumulator as the code stores them: four bits each, in one
-- number.
use Rattle.st_dec.proofs.Common.{◌≡◌, ℕ, ◌+◌, ◌*◌, ◌/◌, ◌%◌, ◌^◌, ◌<◌, ◌≤◌, List, [], ◌∷◌, ◌++◌, length, map, take, drop, replicate, refl, sym, subst, ◌∙◌, arith, lit≤, leb, length-map, length-append, length-replicate, length-take, length-drop, mod-eq_of_lt, mul-le-mul_right, pow_mono, value_of_digits, value_of-bound, bytes, number_of_bytes, codes_value, Shape, magnitude_bits, IsDecimalShape, digit_count, field_value, any_code}
use Rattle.st_field.specs.declared.fields.Field.{Field}
use Rattle.st_dec.proofs.ShapeLemmas.{digits-whole}
use Rattle.st_dec.proofs.DigitLemmas.{AllBelow, joined-below, joined-bytes, value-joined}
use Rattle.st_dec.proofs.ListLemmas.{length-bytes, bytes-below, codes-below, zeros-below, append-below, take-below, drop-below, joined-take, joined-drop, joined-zeros-append, joined-append-zeros, any_code-drop}

-- the bound of the value of 32 digits
pub value_small : (d : ℕ) → value_of_digits 32 d < 2 ^ 127
value_small d = let bound : 3 * value_of_digits 32 d + 5 ≤ 5 * 10 ^ 32 = value_of-bound 32 d in omega arith

-- the digits of the accumulator from a place
from-below : (p m : ℕ) → AllBelow 4 (drop p (bytes 4 32 m))
from-below p m = drop-below 4 p (bytes 4 32 m) (bytes-below 4 32 m)

pub joined-from : (p m : ℕ) → m < 2 ^ 128 → number_of_bytes 4 (drop p (bytes 4 32 m)) ≡ m / 2 ^ (4 * p)
joined-from p m whole =
    let all : number_of_bytes 4 (bytes 4 32 m) ≡ m = joined-bytes 4 32 m ∙ mod-eq_of_lt whole in
    rw (joined-drop 4 p (bytes 4 32 m) (bytes-below 4 32 m), all) refl

from_few : (p m : ℕ) → length (drop p (bytes 4 32 m)) ≤ 32
from_few p m = rw (length-drop, length-bytes) (omega arith)

pub value-from : (p m d : ℕ) → d ≡ number_of_bytes 4 (drop p (bytes 4 32 m)) → value_of_digits 32 d ≡ codes_value (drop p (bytes 4 32 m))
value-from p m d is = rw is (value-joined 32 (drop p (bytes 4 32 m)) (from-below p m) (from_few p m))

-- the first n digits of a list, with zeros if it is shorter
abbrev pub padded : ℕ → List ℕ → List ℕ
padded n xs = take n (xs ++ replicate n 0)

padded-below : (n : ℕ) (xs : List ℕ) → AllBelow 4 xs → AllBelow 4 (padded n xs)
padded-below n xs all = take-below 4 n (xs ++ replicate n 0) (append-below 4 xs (replicate n 0) all (zeros-below 4 n))

joined-padded : (n : ℕ) (xs : List ℕ) → AllBelow 4 xs → number_of_bytes 4 (padded n xs) ≡ number_of_bytes 4 xs % 2 ^ (4 * n)
joined-padded n xs all =
    rw (joined-take 4 n (xs ++ replicate n 0) (append-below 4 xs (replicate n 0) all (zeros-below 4 n)), joined-append-zeros 4 n xs) refl

pub length-padded : (n : ℕ) (xs : List ℕ) → length (padded n xs) ≡ n
length-padded n xs = rw (length-take, length-append, length-replicate) (omega arith)

pub joined-field : (n p m : ℕ) → number_of_bytes 4 (padded n (drop p (bytes 4 32 m))) ≡ number_of_bytes 4 (drop p (bytes 4 32 m)) % 2 ^ (4 * n)
joined-field n p m = joined-padded n (drop p (bytes 4 32 m)) (from-below p m)

pub field-below : (n p m : ℕ) → AllBelow 4 (padded n (drop p (bytes 4 32 m)))
field-below n p m = padded-below n (drop p (bytes 4 32 m)) (from-below p m)

-- the number of codes of a field
pub length-codes : (b n m : ℕ) → length (map (λ d. d % 16) (bytes b n m)) ≡ n
length-codes b n m = rw (length-map, length-bytes) refl

pub value-codes : (b n m d : ℕ) → n ≤ 32 → d ≡ number_of_bytes 4 (map (λ d. d % 16) (bytes b n m)) → value_of_digits 32 d ≡ codes_value (map (λ d. d % 16) (bytes b n m))
value-codes b n m d few is =
    let short : length (map (λ d. d % 16) (bytes b n m)) ≤ 32 = rw (length-codes b n m) few in
    rw is (value-joined 32 (map (λ d. d % 16) (bytes b n m)) (codes-below (bytes b n m)) short)

-- the value of a list of codes is at most its number
value_le : (cs : List ℕ) → codes_value cs ≤ number_of_bytes 4 cs
unfolding codes_value number_of_bytes
value_le [] = lit≤ tt
value_le (c ∷ cs) = let rest : codes_value cs ≤ number_of_bytes 4 cs = value_le cs in omega arith

pub value_fits : (b n m : ℕ) → 4 ≤ b → codes_value (map (λ d. d % 16) (bytes b n m)) < 2 ^ (b * n)
value_fits b n m wide =
    let most : codes_value (map (λ d. d % 16) (bytes b n m)) ≤ number_of_bytes 4 (map (λ d. d % 16) (bytes b n m)) = value_le (map (λ d. d % 16) (bytes b n m)) in
    let room : number_of_bytes 4 (map (λ d. d % 16) (bytes b n m)) < 2 ^ (4 * length (map (λ d. d % 16) (bytes b n m))) = joined-below 4 (map (λ d. d % 16) (bytes b n m)) (codes-below (bytes b n m)) in
    let codes : number_of_bytes 4 (map (λ d. d % 16) (bytes b n m)) < 2 ^ (4 * n) = subst (λ k. number_of_bytes 4 (map (λ d. d % 16) (bytes b n m)) < 2 ^ (4 * k)) (length-codes b n m) room in
    let more : 2 ^ (4 * n) ≤ 2 ^ (b * n) = pow_mono (mul-le-mul_right n wide) in
    omega arith

-- the codes of a field at a place of the accumulator
moved-below : (p : ℕ) (cs : List ℕ) → AllBelow 4 cs → AllBelow 4 (replicate p 0 ++ cs)
moved-below p cs all = append-below 4 (replicate p 0) cs (zeros-below 4 p) all

pub joined-at_place : (p : ℕ) (ds : List ℕ) → number_of_bytes 4 (take 32 (replicate p 0 ++ map (λ d. d % 16) ds)) ≡ number_of_bytes 4 (map (λ d. d % 16) ds) * 2 ^ (4 * p) % 2 ^ 128
joined-at_place p ds =
    rw (joined-take 4 32 (replicate p 0 ++ map (λ d. d % 16) ds) (moved-below p (map (λ d. d % 16) ds) (codes-below ds)), joined-zeros-append 4 p (map (λ d. d % 16) ds)) refl

pub value-at_place : (p d : ℕ) (ds : List ℕ) → d ≡ number_of_bytes 4 (take 32 (replicate p 0 ++ map (λ d. d % 16) ds)) → value_of_digits 32 d ≡ codes_value (take 32 (replicate p 0 ++ map (λ d. d % 16) ds))
value-at_place p d ds is =
    let short : length (take 32 (replicate p 0 ++ map (λ d. d % 16) ds)) ≤ 32 = rw length-take (omega arith) in
    rw is (value-joined 32 (take 32 (replicate p 0 ++ map (λ d. d % 16) ds)) (take-below 4 32 (replicate p 0 ++ map (λ d. d % 16) ds) (moved-below p (map (λ d. d % 16) ds) (codes-below ds))) short)

pub any_code-lost : (p : ℕ) (ds : List ℕ) → any_code (drop 32 (replicate p 0 ++ map (λ d. d % 16) ds)) ≡ leb (2 ^ 128) (number_of_bytes 4 (map (λ d. d % 16) ds) * 2 ^ (4 * p))
any_code-lost p ds =
    rw (any_code-drop 32 (replicate p 0 ++ map (λ d. d % 16) ds) (moved-below p (map (λ d. d % 16) ds) (codes-below ds)), joined-zeros-append 4 p (map (λ d. d % 16) ds)) refl

-- the codes of the accumulator to the left of those that a field stores
pub any_code-left : (n p m : ℕ) → any_code (drop n (drop p (bytes 4 32 m))) ≡ leb (2 ^ (4 * n)) (number_of_bytes 4 (drop p (bytes 4 32 m)))
any_code-left n p m = any_code-drop n (drop p (bytes 4 32 m)) (from-below p m)

pub field_value-fits : (f : Field) (h : Shape) → IsDecimalShape h → field_value f h < 2 ^ magnitude_bits h
field_value-fits f h is = subst (λ k. field_value f h < 2 ^ k) (digits-whole h is) (value_fits h.byte (digit_count h) f.mag is.code)

-- a magnitude that fits its shape fits its digits
pub magnitude-room : (m : ℕ) (h : Shape) → IsDecimalShape h → m < 2 ^ magnitude_bits h → m < 2 ^ (h.byte * digit_count h)
magnitude-room m h is below = subst (λ k. m < 2 ^ k) (sym (digits-whole h is)) below
