-- The base-10 parts of the results of operations on fields.
--
-- Proved: by their `ensures` clauses these calls do what definitions here say: `load_transit`
-- (loads.rt), `in_field` (operand.rt), `with_digits` (operand.rt), `decimal` (operations.rt), and
-- others.
-- Read by: definitions in Outcome of st_exec.
-- Laws: none names a definition of this file itself.
-- Change: the meaning is fixed by docs/variable-fields.md, since the contracts of `st_top::stretch`
-- and `st_account::ledger` unfold to a definition here. The form is free, with the proofs that
-- unfold it.
use Rattle.std.specs.Prelude.{ℕ, ◌+◌, ◌-◌, ◌*◌, ◌%◌, ◌^◌, nat_le, Bool, take, drop}
use Rattle.st_bits.specs.declared.operations.VflOp.{VflOp}
use Rattle.st_bits.specs.Indicators.{indicator}
use Rattle.st_bits.specs.declared.indicators.TheConstants.{DECIMAL_TRANSIT}
use Rattle.st_field.specs.declared.accumulator.Acc.{Acc}
use Rattle.st_field.specs.declared.base.Taken.{Taken}
use Rattle.st_field.specs.declared.fields.Field.{Field}
use Rattle.st_field.specs.declared.fields.Shape.{Shape}
use Rattle.st_field.specs.declared.operand.Kept.{Kept}
use Rattle.st_field.specs.declared.outcome.Done.{Done}
use Rattle.st_field.specs.Bases.{InBase, operand_taken, result_of}
use Rattle.st_field.specs.Indicators.{flag_indicators}
use Rattle.st_field.specs.Fields.{zone_of}
use Rattle.st_field.specs.Results.{signed_operand, number_cut, aligned_operand, loaded, transit_loaded}
use Rattle.st_dec.specs.DigitLists.{bytes, number_of_bytes, codes_value, decimal}
use Rattle.st_dec.specs.DecimalOperand.{digit_count, digit_bytes, codes, field_value, bytes_with_codes, codes_with_zones, codes_from_place, field_codes, codes_at_place, any_code}

-- ---- stored numbers

-- the operand aligned with the digit place of the accumulator, which keeps 32 digits
abbrev pub at_place : Field → Shape → Kept
at_place f h = record {
  bits = number_of_bytes 4 (take 32 (codes_at_place f h));
  value = codes_value (take 32 (codes_at_place f h));
  is_lost = any_code (drop 32 (codes_at_place f h));
}

-- the 32 lowest decimal digits of a number as they are stored in the accumulator
abbrev pub sum_digits : ℕ → Kept
sum_digits n = record {
  bits = number_of_bytes 4 (decimal 32 n);
  value = codes_value (bytes 4 32 (number_of_bytes 4 (decimal 32 n)));
  is_lost = nat_le (10 ^ 32) n;
}

-- the magnitude m as it is stored in a field
abbrev pub digits_in_field : Field → Shape → ℕ → Bool → Kept
digits_in_field f h m lost =
    record { bits = m; value = field_value (record f { mag = m }) h; is_lost = lost }

-- the decimal digits of a number stored as the codes of a field, whose zones do not change
abbrev pub field_with_digits : Field → Shape → ℕ → Kept
field_with_digits f h n = digits_in_field f h
    (number_of_bytes h.byte (bytes_with_codes (digit_bytes f h) (decimal (digit_count h) n)))
    (nat_le (10 ^ digit_count h) n)

-- the magnitude that ST stores: codes from the digit place, each with the zone of the accumulator
abbrev pub stored_magnitude : Acc → Shape → ℕ
stored_magnitude a h = number_of_bytes h.byte (codes_with_zones (zone_of a.sb % 2 ^ (h.byte - 4))
    (field_codes a h))

-- ---- the operations that only base 10 has

-- the result of *, *+ and /: that of LTRS, for a routine that computes with the transit register
abbrev pub transit_set : Acc → Field → Shape → Done
transit_set a f h =
    transit_loaded a (signed_operand f h (field_value f h)) (number_of_bytes 4 (codes f h))
    (flag_indicators f.flags + indicator DECIMAL_TRANSIT)

-- the result of LCV: the value of the field is loaded as a binary number
unfoldable pub binary_value : Field → Shape → Done
binary_value f h = loaded 0 0 (aligned_operand f h (number_cut 128
    (field_value f h * 2 ^ h.offset)))

-- ---- the base

-- the base-10 parts of a result, for given inputs
abbrev pub base : Taken → InBase
base t = record {
  whole = codes_value (bytes 4 32 t.acc.mag);
  part = codes_value (codes_from_place t.acc t.shape);
  value = field_value t.field t.shape;
  content = number_of_bytes 4 (codes t.field t.shape);
  transit = indicator DECIMAL_TRANSIT;
  at_place = at_place t.field t.shape;
  stored = digits_in_field t.field t.shape (stored_magnitude t.acc t.shape)
      (any_code (drop (digit_count t.shape) (codes_from_place t.acc t.shape)));
  summed = sum_digits;
  replaced = field_with_digits t.field t.shape;
  product = transit_set t.acc t.field t.shape;
  product_added = λ _. transit_set t.acc t.field t.shape;
  quotient = transit_set t.acc t.field t.shape;
  converted = binary_value t.field t.shape;
}

-- the result of a decimal operation on a field with the bits x; it does not use the factor register
unfoldable pub result : VflOp → Acc → ℕ → Shape → ℕ → Done
result op a x h ind = result_of op (base (operand_taken a x h)) (operand_taken a x h) 0 ind
