-- The parts of a binary field as natural numbers: magnitude, sign, flags and zone.
--
-- Proved: by their `ensures` clauses these calls do what definitions here say: `read_field`
-- (fields.rt), `addend` (accumulator.rt), `stored_field` (accumulator.rt), `replaced` (base.rt),
-- and others.
-- Read by: definitions in Results, Bases, BinaryResult of st_bin, DecimalOperand of st_dec, and
-- others.
-- Laws: none names a definition of this file itself.
-- Change: the meaning is fixed by docs/variable-fields.md, since the contracts of `st_top::stretch`
-- and `st_account::ledger` unfold to a definition here. The form is free, with the proofs that
-- unfold it.
use Rattle.std.specs.Prelude.{ℕ, ◌≡◌, ◌+◌, ◌-◌, ◌*◌, ◌/◌, ◌%◌, ◌^◌, ◌<◌, ◌≤◌, Bool, false, ◌==◌, if◌then◌else◌}
use Rattle.st_field.specs.declared.fields.Field.{Field}
use Rattle.st_field.specs.declared.fields.Shape.{Shape}

-- a shape that is valid for a binary operation
pub record IsBinaryShape (h : Shape) : Type 0 where
  pub some : 1 ≤ h.length
  pub few : h.length ≤ 64
  pub some_byte : 1 ≤ h.byte
  pub small_byte : h.byte ≤ 8
  pub room : h.unsigned ≡ false → h.byte ≤ h.length
  pub near : h.offset ≤ 127

-- the number of magnitude bits: all bits of the field, without the last byte if it is signed
abbrev pub magnitude_bits : Shape → ℕ
magnitude_bits h = if h.unsigned then h.length else h.length - h.byte

-- the zone of a sign byte, whose parts are from the left: zone, sign, and the flags T, U and V
abbrev pub zone_of : ℕ → ℕ
zone_of s = s / 16

-- whether the sign in a sign byte is minus
abbrev pub sign_of : ℕ → Bool
sign_of s = s / 8 % 2 == 1

-- the flags T, U and V of a sign byte
abbrev pub flags_of : ℕ → ℕ
flags_of s = s % 8

-- the sign byte with these parts; the Boolean is true for minus
abbrev pub sign_byte : ℕ → Bool → ℕ → ℕ
sign_byte zone minus flags = zone * 16 + (if minus then 8 else 0) + flags

-- the last b bits of a field as a sign byte; if b is less than 4, the bits that are missing are 0
abbrev pub last_byte : ℕ → ℕ → ℕ
last_byte x b = x % 2 ^ b * 2 ^ (4 - b)

-- the parts of a field with the bits x; an unsigned field has plus, no flags and no zone
abbrev pub field_of : ℕ → Shape → Field
field_of x h = if h.unsigned then record { mag = x; negative = false; flags = 0; zone = 0 }
    else let s = last_byte x h.byte in
    record { mag = x / 2 ^ h.byte; negative = sign_of s; flags = flags_of s; zone = zone_of s }

-- the last byte of a signed field, b bits: the low zone bits that fit, only the left bits if b < 4
abbrev pub byte_bits : Field → ℕ → ℕ
byte_bits f b = sign_byte (f.zone % 2 ^ (b - 4)) f.negative f.flags / 2 ^ (4 - b)

-- the bits of a field with the given parts and shape
abbrev pub field_bits : Field → Shape → ℕ
field_bits f h = if h.unsigned then f.mag else f.mag * 2 ^ h.byte + byte_bits f h.byte

-- a field whose parts fit its shape
pub record HasRoom (f : Field) (h : Shape) : Type 0 where
  pub below : f.mag < 2 ^ magnitude_bits h
  pub three_flags : f.flags < 8
  pub four_zone_bits : f.zone < 16
