-- Common parts of operations on fields: their numbers and their results.
--
-- Proved: by their `ensures` clauses these calls do what definitions here say: `signed_as`
-- (accumulator.rt), `stored_field` (accumulator.rt), `with_number` (accumulator.rt), `load`
-- (loads.rt), and others.
-- Read by: definitions in Bases, Comparisons, BinaryResult of st_bin, DecimalResult of st_dec, and
-- others.
-- Laws: none names a definition of this file itself.
-- Change: the meaning is fixed by docs/variable-fields.md, since the contracts of `st_top::stretch`
-- and `st_account::ledger` unfold to a definition here. The form is free, with the proofs that
-- unfold it.
use Rattle.std.specs.Prelude.{ℕ, ◌+◌, ◌%◌, ◌^◌, Bool, true, false, if◌then◌else◌, None, Some}
use Rattle.st_bits.specs.declared.storage.Ind.{Ind}
use Rattle.st_bits.specs.declared.indicators.TheConstants.{PARTIAL_FIELD}
use Rattle.st_field.specs.declared.accumulator.Acc.{Acc}
use Rattle.st_field.specs.declared.fields.Field.{Field}
use Rattle.st_field.specs.declared.fields.Shape.{Shape}
use Rattle.st_field.specs.declared.operand.Kept.{Kept}
use Rattle.st_field.specs.declared.operand.Aligned.{Aligned}
use Rattle.st_field.specs.declared.outcome.Done.{Done}
use Rattle.st_field.specs.declared.signed.Signed.{Signed}
use Rattle.st_field.specs.Indicators.{on_if, flag_indicators, by_number}
use Rattle.st_field.specs.Fields.{zone_of, sign_of, flags_of, sign_byte, field_bits}
use Rattle.st_field.specs.Numbers.{exactly_one, exceeds}

-- ---- numbers

-- the signed number with the magnitude m and the sign of the accumulator
abbrev pub number_in : Acc → ℕ → Signed
number_in a m = record { negative = sign_of a.sb; mag = m }

-- the operand: the magnitude m with the sign of the field, inverted if the operation is negated
abbrev pub signed_operand : Field → Shape → ℕ → Signed
signed_operand f h m = record { negative = exactly_one f.negative h.negated; mag = m }

-- a number stored in n bits
abbrev pub number_cut : ℕ → ℕ → Kept
number_cut n m = record { bits = m % 2 ^ n; value = m % 2 ^ n; is_lost = exceeds m n }

-- the operand at its place in the accumulator, where k is its shifted magnitude
abbrev pub aligned_operand : Field → Shape → Kept → Aligned
aligned_operand f h k = record {
  bits = k.bits;
  number = signed_operand f h k.value;
  on = flag_indicators f.flags + on_if k.is_lost PARTIAL_FIELD;
}

-- the accumulator with another magnitude and sign; zone and flags do not change
abbrev pub with_number : Acc → ℕ → Bool → Acc
with_number a m minus = record { mag = m; sb = sign_byte (zone_of a.sb) minus (flags_of a.sb) }

-- the field that stores the accumulator with the magnitude m; an unsigned field has plus
abbrev pub stored_field : Acc → Shape → ℕ → Field
stored_field a h m = record {
  mag = m;
  negative = if h.unsigned then false else exactly_one (sign_of a.sb) h.negated;
  flags = flags_of a.sb;
  zone = zone_of a.sb;
}

-- ---- results of operations

-- a result with the accumulator a that writes no field and no other register
abbrev pub done_with : Acc → Ind → Done
done_with a ind =
    record { acc = a; field = None; rm = None; ft = None; tr = None; counts = None; ind = ind }

-- a result with the accumulator a, whose value m is the result number
abbrev pub in_accumulator : Acc → ℕ → ℕ → Done
in_accumulator a m on = done_with a (by_number false (sign_of a.sb) m on)

-- a result that writes the field f, whose value m is the result number
abbrev pub in_field : Acc → Field → Shape → ℕ → ℕ → Done
in_field a f h m on =
    record (done_with a (by_number true f.negative m on)) { field = Some (field_bits f h) }

-- the result of a load into the accumulator: the operand, with this zone and these flags
abbrev pub loaded : ℕ → ℕ → Aligned → Done
loaded zone flags x = in_accumulator
    (record { mag = x.bits; sb = sign_byte zone x.number.negative flags }) x.number.mag x.on

-- the result of LTRS: the bits x of a field, as a number n, are loaded into the transit register
abbrev pub transit_loaded : Acc → Signed → ℕ → ℕ → Done
transit_loaded a n x on = record (done_with a (by_number false n.negative n.mag on)) { tr = Some x }

-- the result of LFT: the bits x of a field, as a number n, are loaded into the factor register
abbrev pub factor_loaded : Acc → Signed → ℕ → ℕ → Done
factor_loaded a n x on = record (done_with a (by_number false n.negative n.mag on)) { ft = Some x }
