-- The base-2 parts of the results of operations on fields, and the operations that only base 2 has.
--
-- Proved: by their `ensures` clauses these calls do what definitions here say: `multiplied`
-- (base.rt), `binary` (operations.rt).
-- Read by: definitions in Outcome of st_exec.
-- Laws: none names a definition of this file itself.
-- Change: the meaning is fixed by docs/variable-fields.md, since the contracts of `st_top::stretch`
-- and `st_account::ledger` unfold to a definition here. The form is free, with the proofs that
-- unfold it.
use Rattle.std.specs.Prelude.{ℕ, ◌+◌, ◌*◌, ◌/◌, ◌%◌, ◌^◌, nat_le, ◌==◌, ◌||◌, if◌then◌else◌, Some}
use Rattle.st_bits.specs.declared.operations.VflOp.{VflOp}
use Rattle.st_bits.specs.Indicators.{indicator}
use Rattle.st_bits.specs.declared.indicators.TheConstants.{BINARY_TRANSIT, ZERO_DIVISOR, LOST_CARRY, PARTIAL_FIELD}
use Rattle.st_field.specs.declared.accumulator.Acc.{Acc}
use Rattle.st_field.specs.declared.base.Taken.{Taken}
use Rattle.st_field.specs.declared.fields.Field.{Field}
use Rattle.st_field.specs.declared.fields.Shape.{Shape}
use Rattle.st_field.specs.declared.outcome.Done.{Done}
use Rattle.st_field.specs.declared.signed.Signed.{Signed}
use Rattle.st_field.specs.Bases.{InBase, operand_taken, result_of}
use Rattle.st_field.specs.Indicators.{on_if, flag_indicators}
use Rattle.st_field.specs.Fields.{magnitude_bits, sign_of}
use Rattle.st_field.specs.Numbers.{exactly_one, exceeds, sum_of}
use Rattle.st_field.specs.Digits.{digits_of}
use Rattle.st_field.specs.Results.{number_in, signed_operand, number_cut, with_number, done_with, in_accumulator, loaded}

-- the accumulator from the offset
abbrev pub from_offset : Acc → Shape → ℕ
from_offset a h = a.mag / 2 ^ h.offset

-- ---- the operations that only base 2 has

-- the result with a product or quotient m, minus if exactly one of accumulator and operand is minus
abbrev pub product_result : Acc → Field → Shape → ℕ → ℕ → Done
product_result a f h m on = in_accumulator (with_number a m (exactly_one (sign_of a.sb)
    (signed_operand f h f.mag).negative)) m on

-- the result of *: the low 64 bits of the accumulator from the offset, times the operand
unfoldable pub product : Acc → Field → Shape → Done
product a f h = product_result a f h (from_offset a h % 2 ^ 64 * f.mag)
    (flag_indicators f.flags + on_if (exceeds (from_offset a h) 64) PARTIAL_FIELD)

-- the result of *+: the factor register ft times the operand at the offset is added
unfoldable pub product_added : Acc → Field → Shape → ℕ → Done
product_added a f h ft = let p : ℕ = ft * f.mag * 2 ^ h.offset in
    let n : Signed = sum_of (number_in a a.mag) (signed_operand f h (p % 2 ^ 128)) in
    in_accumulator (with_number a (n.mag % 2 ^ 128) n.negative) (n.mag % 2 ^ 128)
    (flag_indicators f.flags + on_if (exceeds p 128 || exceeds n.mag 128) LOST_CARRY)

-- the result of /: the quotient, and the remainder in its register; a zero divisor only turns on ZD
unfoldable pub quotient_result : Acc → Field → Shape → Done
quotient_result a f h =
    if f.mag == 0 then done_with a (record { on = indicator ZERO_DIVISOR; off = 0 })
    else record (product_result a f h (from_offset a h / f.mag) (flag_indicators f.flags)) {
      rm = Some (from_offset a h % f.mag);
    }

-- the result of LCV: the magnitude as 32 decimal digits, its last digit at digit `offset / 4`
unfoldable pub conversion_result : Field → Shape → Done
conversion_result f h = let t : ℕ = f.mag * 10 ^ (h.offset / 4) in
    loaded 0 0 (record {
      bits = digits_of 32 (t % 10 ^ 32);
      number = signed_operand f h (t % 10 ^ 32);
      on = flag_indicators f.flags + on_if (nat_le (10 ^ 32) t) PARTIAL_FIELD;
    })

-- ---- the base

-- the base-2 parts of a result, for given inputs
abbrev pub base : Taken → InBase
base t = record {
  whole = t.acc.mag;
  part = from_offset t.acc t.shape;
  value = t.field.mag;
  content = t.field.mag;
  transit = indicator BINARY_TRANSIT;
  at_place = number_cut 128 (t.field.mag * 2 ^ t.shape.offset);
  stored = number_cut (magnitude_bits t.shape) (from_offset t.acc t.shape);
  summed = number_cut 128;
  replaced = number_cut (magnitude_bits t.shape);
  product = product t.acc t.field t.shape;
  product_added = product_added t.acc t.field t.shape;
  quotient = quotient_result t.acc t.field t.shape;
  converted = conversion_result t.field t.shape;
}

-- the result of a binary operation on a field with the bits x
unfoldable pub result : VflOp → Acc → ℕ → Shape → ℕ → ℕ → Done
result op a x h ft ind = result_of op (base (operand_taken a x h)) (operand_taken a x h) ft ind
