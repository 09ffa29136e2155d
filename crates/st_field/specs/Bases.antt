-- The result of each operation on a field. What depends on the base, 2 or 10, is an argument.
--
-- Proved: by their `ensures` clauses these calls do what definitions here say: `take` (base.rt),
-- `aligned` (operations.rt), `fields` (operations.rt), `number_in_field` (operations.rt), and
-- others.
-- Read by: definitions in BinaryResult of st_bin, DecimalResult of st_dec.
-- Laws: none names a definition of this file itself.
-- Change: the meaning is fixed by docs/variable-fields.md, since the contracts of `st_top::stretch`
-- and `st_account::ledger` unfold to a definition here. The form is free, with the proofs that
-- unfold it.
use Rattle.std.specs.Prelude.{ℕ, ◌+◌}
use Rattle.std.specs.Ordering.{int_cmp}
use Rattle.st_bits.specs.declared.operations.VflOp.{VflOp}
use Rattle.st_bits.specs.declared.operations.VflOp.TheVariants.{L, Lwf, Ltrs, Lft, St, Add, AddMg, MAdd, MAddMg, MAdd1, K, Kf, Ke, Kfe, Kr, Kfr, Mul, MulAdd, Div, Lcv}
use Rattle.st_bits.specs.declared.indicators.TheConstants.{LOST_CARRY, PARTIAL_FIELD}
use Rattle.st_field.specs.declared.accumulator.Acc.{Acc}
use Rattle.st_field.specs.declared.base.Taken.{Taken}
use Rattle.st_field.specs.declared.comparisons.Compared.{Compared}
use Rattle.st_field.specs.declared.fields.Shape.{Shape}
use Rattle.st_field.specs.declared.operand.Aligned.{Aligned}
use Rattle.st_field.specs.declared.operand.Kept.{Kept}
use Rattle.st_field.specs.declared.outcome.Done.{Done}
use Rattle.st_field.specs.declared.signed.Signed.{Signed}
use Rattle.st_field.specs.Comparisons.{compared_by}
use Rattle.st_field.specs.Fields.{IsBinaryShape, HasRoom, field_of, sign_of}
use Rattle.st_field.specs.Indicators.{on_if, flag_indicators, by_order, by_order_if_equal, by_range}
use Rattle.st_field.specs.Numbers.{number_of, sum_of, magnitude_sum, exactly_one}
use Rattle.st_field.specs.Results.{number_in, signed_operand as operand_of, aligned_operand as aligned_of, with_number, stored_field, in_accumulator, in_field, loaded, transit_loaded, factor_loaded}

-- valid inputs of an operation: a shape that is valid in the base, and a field that fits it
pub record IsTaken (Allows : Shape → Type 0) (t : Taken) : Type 0 where
  pub shape : IsBinaryShape t.shape
  pub allowed : Allows t.shape
  pub room : HasRoom t.field t.shape

-- the inputs of an operation on a field with the bits x
abbrev pub operand_taken : Acc → ℕ → Shape → Taken
operand_taken a x h = record { acc = a; field = field_of x h; shape = h }

-- the parts of a result that depend on the base, for given inputs
pub record InBase : Type 0 where
  pub whole : ℕ  -- the value of the accumulator
  pub part : ℕ  -- the value of the accumulator from the offset
  pub value : ℕ  -- the value of the field
  pub content : ℕ  -- the bits of the field as the transit and factor registers store them
  pub transit : ℕ  -- the indicators that are turned on by a load of the transit register
  pub at_place : Kept  -- the field shifted to its place in the accumulator
  pub stored : Kept  -- the accumulator from the offset as it is stored in the field
  pub summed : ℕ → Kept  -- a magnitude as it is stored in the accumulator
  pub replaced : ℕ → Kept  -- a magnitude as it is stored in the field
  pub product : Done  -- the result of *
  pub product_added : ℕ → Done  -- the result of *+, by the contents of the factor register
  pub quotient : Done  -- the result of /
  pub converted : Done  -- the result of LCV

-- ---- numbers and comparisons from the inputs

-- the operand as a signed number, from the field
abbrev pub operand_in_base : InBase → Taken → Signed
operand_in_base b t = operand_of t.field t.shape b.value

-- the operand shifted to its place in the accumulator
abbrev pub aligned_in_base : InBase → Taken → Aligned
aligned_in_base b t = aligned_of t.field t.shape b.at_place

-- the field as a signed number
abbrev pub field_number : InBase → Taken → Signed
field_number b t = record { negative = t.field.negative; mag = b.value }

-- the number that is added to the field: the accumulator from the offset, or its negative
abbrev pub addend : InBase → Taken → Signed
addend b t = record { negative = exactly_one (sign_of t.acc.sb) t.shape.negated; mag = b.part }

-- the number that M+1 adds: one, negated if the operation is negated
abbrev pub one : Shape → Signed
one h = record { negative = h.negated; mag = 1 }

-- the comparison of K: the accumulator with the operand at its place
unfoldable pub numbers_compared : InBase → Taken → Compared
numbers_compared b t = record {
  order = int_cmp (number_of (number_in t.acc b.whole)) (number_of (aligned_in_base b t).number);
  on = (aligned_in_base b t).on;
}

-- the comparison of KF: the accumulator from the offset, as ST would store it, with the operand
unfoldable pub fields : InBase → Taken → Compared
fields b t = record {
  order = int_cmp (number_of (number_in t.acc b.stored.value)) (number_of (operand_in_base b t));
  on = flag_indicators t.field.flags;
}

-- ---- results

-- the result of storing a signed number in the accumulator, whose zone and flags do not change
abbrev pub put_in_accumulator : InBase → Taken → Signed → ℕ → Done
put_in_accumulator b t n on = let k : Kept = b.summed n.mag in
    in_accumulator (with_number t.acc k.bits n.negative) k.value (on + on_if k.is_lost LOST_CARRY)

-- the result of storing a number in the field, its sign only if signed; flags and zone are kept
abbrev pub put_in_field : InBase → Taken → Signed → Done
put_in_field b t n = let k : Kept = b.replaced n.mag in
    in_field t.acc (record t.field { mag = k.bits; negative = n.negative }) t.shape k.value
    (flag_indicators t.field.flags + on_if k.is_lost LOST_CARRY)

-- ---- the operations

-- the result of ST: the accumulator from the offset is stored in the field
unfoldable pub store_result : InBase → Taken → Done
store_result b t = in_field t.acc (stored_field t.acc t.shape b.stored.bits) t.shape b.stored.value
    (on_if b.stored.is_lost PARTIAL_FIELD)

-- the result of an operation; ft is the factor register, ind the indicator register
abbrev pub result_of : VflOp → InBase → Taken → ℕ → ℕ → Done
-- the field is loaded into the accumulator, without its zone and flags or with them
result_of L b t ft ind = loaded 0 0 (aligned_in_base b t)
result_of Lwf b t ft ind = loaded t.field.zone t.field.flags (aligned_in_base b t)
result_of Ltrs b t ft ind = transit_loaded t.acc (operand_in_base b t) b.content
    (flag_indicators t.field.flags + b.transit)
result_of Lft b t ft ind = factor_loaded t.acc (operand_in_base b t) b.content
    (flag_indicators t.field.flags)
result_of St b t ft ind = store_result b t
-- the operand is added to the accumulator or to its magnitude
result_of Add b t ft ind = put_in_accumulator b t (sum_of (number_in t.acc b.whole)
    (aligned_in_base b t).number) (aligned_in_base b t).on
result_of AddMg b t ft ind = put_in_accumulator b t (magnitude_sum (number_in t.acc b.whole)
    (aligned_in_base b t).number) (aligned_in_base b t).on
-- the accumulator is added to the field or to its magnitude, or one is added to the field
result_of MAdd b t ft ind = put_in_field b t (sum_of (field_number b t) (addend b t))
result_of MAddMg b t ft ind = put_in_field b t (magnitude_sum (field_number b t) (addend b t))
result_of MAdd1 b t ft ind = put_in_field b t (sum_of (field_number b t) (one t.shape))
-- the accumulator or a field of it is compared: always, if AE is on, or with the end of a range
result_of K b t ft ind = compared_by by_order t.acc (numbers_compared b t)
result_of Kf b t ft ind = compared_by by_order t.acc (fields b t)
result_of Ke b t ft ind = compared_by (by_order_if_equal ind) t.acc (numbers_compared b t)
result_of Kfe b t ft ind = compared_by (by_order_if_equal ind) t.acc (fields b t)
result_of Kr b t ft ind = compared_by (by_range ind) t.acc (numbers_compared b t)
result_of Kfr b t ft ind = compared_by (by_range ind) t.acc (fields b t)
result_of Mul b t ft ind = b.product
result_of MulAdd b t ft ind = b.product_added ft
result_of Div b t ft ind = b.quotient
result_of Lcv b t ft ind = b.converted
