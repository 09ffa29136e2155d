-- Numbers as the bits of fields.
--
-- Proved: by their `ensures` clauses these calls do what definitions here say: `digit_count`
-- (numbers.rt), `magnitude` (numbers.rt), `capacity` (numbers.rt), `field_of` (numbers.rt), and
-- others.
-- Read by: definitions in Checks, Emitting, EmittedNumbers of st_laws.
-- Laws: none names a definition of this file itself.
-- Change: the meaning is fixed by docs/strap.md, since the contracts of `st_top::stretch` and
-- `st_account::ledger` unfold to a definition here. The form is free, with the proofs that unfold
-- it.
use Rattle.std.specs.Prelude.{ℕ, zero, suc, ◌+◌, ◌-◌, ◌*◌, ◌/◌, ◌%◌, ◌^◌, ◌&&◌, Bool, not, nat_lt, min, if◌then◌else◌}
use Rattle.st_mnemonic.specs.declared.form.Form.{Form}

-- the number of bits of a field's magnitude: all except the sign byte of a signed field
abbrev pub magnitude_bits_of : Form → ℕ
magnitude_bits_of form = if form.unsigned then form.length else form.length - form.byte

-- the number of digits of a decimal field
abbrev pub digits_of_form : Form → ℕ
digits_of_form form = magnitude_bits_of form / form.byte

-- the least number that is too large for a field
abbrev pub capacity : Form → ℕ
capacity form = if form.decimal then 10 ^ digits_of_form form else 2 ^ magnitude_bits_of form

-- whether a number fits in a field: an unsigned field has no minus
unfoldable pub holds : Form → Bool → ℕ → Bool
holds form minus number = not (form.unsigned && minus) && nat_lt number (capacity form)

-- the last digits of a number, each right-aligned in a byte of this size
unfoldable pub packed_digits : ℕ → ℕ → ℕ → ℕ
packed_digits byte zero number = 0
packed_digits byte (suc count) number = packed_digits byte count (number / 10) * 2 ^ byte
    + number % 10

-- the bits of a number's magnitude in a field
abbrev pub magnitude : Form → ℕ → ℕ
magnitude form number = if form.decimal then packed_digits form.byte (digits_of_form form) number
    else number

-- a sign byte: the sign before three flags, if the byte has room for them; flags and zone are 0
abbrev pub sign_byte_of : ℕ → Bool → ℕ
sign_byte_of byte minus = if minus then 2 ^ (min byte 4 - 1) else 0

-- the bits of a field that contains a number
unfoldable pub field_bits_of : Form → Bool → ℕ → ℕ
field_bits_of form minus number = if form.unsigned then magnitude form number
    else magnitude form number * 2 ^ form.byte + sign_byte_of form.byte minus
