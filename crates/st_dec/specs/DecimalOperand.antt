-- The digits of a decimal field, each a byte with a zone and a code, and the digits of the
-- accumulator.
--
-- Proved: by their `ensures` clauses these calls do what definitions here say: `recoded`
-- (digits.rt), `is_code_lost` (stores.rt), `spread` (digits.rt), `codes_from_place`
-- (accumulator.rt), and others.
-- Read by: definitions in DecimalResult.
-- Laws: EmittedNumbersAreRead (specs/Laws.antt of st_laws).
-- Change: the meaning is fixed by docs/variable-fields.md, since the contracts of `st_top::stretch`
-- and `st_account::ledger` unfold to a definition here. The form is free, with the proofs that
-- unfold it.
use Rattle.std.specs.Prelude.{ℕ, ◌≡◌, ◌+◌, ◌*◌, ◌/◌, ◌%◌, ◌≤◌, nat_lt, Bool, List, [], ◌∷◌, ◌++◌, map, take, drop, replicate}
use Rattle.std.specs.List.{list_any}
use Rattle.st_field.specs.declared.accumulator.Acc.{Acc}
use Rattle.st_field.specs.declared.fields.Field.{Field}
use Rattle.st_field.specs.declared.fields.Shape.{Shape}
use Rattle.st_field.specs.Fields.{IsBinaryShape, magnitude_bits}
use Rattle.st_dec.specs.DigitLists.{bytes, codes_value}

-- a shape that is valid for a decimal operation: whole bytes, each with room for a code
pub record IsDecimalShape (h : Shape) : Type 0 where
  pub shape : IsBinaryShape h
  pub code : 4 ≤ h.byte
  pub whole : h.length % h.byte ≡ 0

-- the number of digits of a field
abbrev pub digit_count : Shape → ℕ
digit_count h = magnitude_bits h / h.byte

-- the bytes of a field's magnitude; the code of each is its last four bits
abbrev pub digit_bytes : Field → Shape → List ℕ
digit_bytes f h = bytes h.byte (digit_count h) f.mag

-- the codes of a field's digits, the digit in place 0 first
abbrev pub codes : Field → Shape → List ℕ
codes f h = map (λ d. d % 16) (digit_bytes f h)

-- the value of a field without its sign; the codes 10 to 15 have these values
abbrev pub field_value : Field → Shape → ℕ
field_value f h = codes_value (codes f h)

-- the bytes ds with the codes cs; their zones do not change
unfoldable pub bytes_with_codes : List ℕ → List ℕ → List ℕ
bytes_with_codes [] cs = []
bytes_with_codes (d ∷ ds) [] = []
bytes_with_codes (d ∷ ds) (c ∷ cs) = (d / 16 * 16 + c) ∷ bytes_with_codes ds cs

-- the codes as bytes, each with the same zone
abbrev pub codes_with_zones : ℕ → List ℕ → List ℕ
codes_with_zones zone cs = map (λ c. zone * 16 + c) cs

-- the digit of the accumulator at which the last digit of the field is placed
abbrev pub last_digit_place : Shape → ℕ
last_digit_place h = h.offset / 4

-- the codes of the accumulator, which has 32 digits, from the digit place
abbrev pub codes_from_place : Acc → Shape → List ℕ
codes_from_place a h = drop (last_digit_place h) (bytes 4 32 a.mag)

-- as many codes of the accumulator from the digit place as the field has, zeros beyond the 32nd
abbrev pub field_codes : Acc → Shape → List ℕ
field_codes a h = take (digit_count h) (codes_from_place a h ++ replicate (digit_count h) 0)

-- the codes of the operand with its last digit at the digit place, and zeros below
abbrev pub codes_at_place : Field → Shape → List ℕ
codes_at_place f h = replicate (last_digit_place h) 0 ++ codes f h

-- whether one of the codes is not zero
abbrev pub any_code : List ℕ → Bool
any_code cs = list_any (λ c. nat_lt 0 c) cs
