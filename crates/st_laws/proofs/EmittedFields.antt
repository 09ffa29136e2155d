-- Lemmas on reading assembled fields.
use Rattle.st_laws.proofs.Common.{◌≡◌, ℕ, ◌-◌, ◌%◌, ◌^◌, ◌<◌, ◌≤◌, ◌&&◌, ◌||◌, ◌==◌, Bool, true, false, not, nat_lt, refl, ap, subst, ◌∙◌, arith, map, if◌then◌else◌, holds, capacity, digits_of_form, magnitude, packed_digits, holds-below, bytes, codes_value, IsHeld, IsRead, emitted_shape, field_of_number}
use Rattle.std.proofs.lemmas.Bool.{or_parts as either_false}
use Rattle.std.specs.Bool.{IsFalse}
use Rattle.st_format.specs.Validity.{misfits}
use Rattle.st_mnemonic.specs.declared.form.Form.{Form}
use Rattle.st_asm.specs.Numbers.{field_bits_of as emitted_bits}
use Rattle.st_dec.specs.DigitLists.{decimal as digits}
use Rattle.st_dec.specs.DecimalOperand.{field_value, digit_bytes}
use Rattle.st_laws.proofs.EmittedDigits.{bytes-packed, value-packed}
use Rattle.st_laws.proofs.EmittedParts.{parts-read}

-- an unsigned field has no minus
first_part : (a b : Bool) → (not a && b) ≡ true → a ≡ false
first_part true b e = let no : ⊥ = cc in absurd no
first_part false b e = refl

no_minus : (form : Form) (minus : Bool) (number : ℕ) → holds form minus number ≡ true → (form.unsigned && minus) ≡ false
unfolding holds
no_minus form minus number held = first_part (form.unsigned && minus) (nat_lt number (capacity form)) held

-- an assembled field is read with its magnitude and its sign
magnitude-read : (form : Form) (minus negated : Bool) (number offset : ℕ) → IsHeld form minus number →
    let f = field_of_number form minus number (emitted_shape form negated offset) in
    IsRead f f.mag minus (magnitude form number)
unfolding emitted_bits
magnitude-read form minus negated number offset held =
    parts-read form.unsigned minus negated (magnitude form number) form.length form.byte offset
    (no_minus form minus number held.room) held.sizes.sizes.some_byte held.sizes.sizes.small_byte

pub binary-read : (form : Form) (minus negated : Bool) (number offset : ℕ) → IsHeld form minus number → form.decimal ≡ false →
    let f = field_of_number form minus number (emitted_shape form negated offset) in
    IsRead f f.mag minus number
binary-read form minus negated number offset held binary =
    let read = magnitude-read form minus negated number offset held in
    let is = ap (λ d. if d then packed_digits form.byte (digits_of_form form) number else number) binary in
    record { same_number = read.same_number ∙ is; same_sign = read.same_sign; no_flags = read.no_flags; no_zone = read.no_zone }

-- a decimal field has bytes with room for a digit
wide_bytes : (unsigned : Bool) (bits byte : ℕ) → IsFalse (misfits true unsigned bits byte) → 4 ≤ byte
wide_bytes unsigned bits byte fits =
    let first = (either_false (nat_lt byte 4 || not (bits % byte == 0)) (not unsigned && nat_lt bits byte) fits).0 in
    let second = (either_false (nat_lt byte 4) (not (bits % byte == 0)) first).0 in
    grind arith

pub decimal-read : (form : Form) (minus negated : Bool) (number offset : ℕ) → IsHeld form minus number → form.decimal ≡ true →
    let h = emitted_shape form negated offset in
    let f = field_of_number form minus number h in
    IsRead f (field_value f h) minus number
decimal-read form minus negated number offset held decimal =
    let read = magnitude-read form minus negated number offset held in
    let n = digits_of_form form in
    let is = ap (λ d. if d then packed_digits form.byte n number else number) decimal in
    let wide = wide_bytes form.unsigned form.length form.byte
    (subst (λ d. IsFalse (misfits d form.unsigned form.length form.byte)) decimal held.sizes.fits) in
    let few = subst (λ k. number < k) (ap (λ d. if d then 10 ^ n else 2 ^ (if form.unsigned then form.length else form.length - form.byte)) decimal)
    (holds-below form minus number held.room) in
    record {
      same_number = ap (λ m. codes_value (map (λ d. d % 16) (bytes form.byte n m))) (read.same_number ∙ is)
          ∙ value-packed form.byte n number wide few;
      same_sign = read.same_sign;
      no_flags = read.no_flags;
      no_zone = read.no_zone;
    }

-- the bytes of an assembled decimal field are the digits of the number
pub digits-read : (form : Form) (minus negated : Bool) (number offset : ℕ) → IsHeld form minus number → form.decimal ≡ true →
    let h = emitted_shape form negated offset in
    digit_bytes (field_of_number form minus number h) h ≡ digits (digits_of_form form) number
digits-read form minus negated number offset held decimal =
    let read = magnitude-read form minus negated number offset held in
    let n = digits_of_form form in
    let is = ap (λ d. if d then packed_digits form.byte n number else number) decimal in
    let wide = wide_bytes form.unsigned form.length form.byte
    (subst (λ d. IsFalse (misfits d form.unsigned form.length form.byte)) decimal held.sizes.fits) in
    ap (λ m. bytes form.byte n m) (read.same_number ∙ is) ∙ bytes-packed form.byte n number wide
