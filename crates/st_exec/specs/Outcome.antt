-- The effect of an operation on a field on the accumulator, the other registers, the indicators and
-- the field.
--
-- Proved: by their `ensures` clauses these calls do what definitions here say: `put_field`
-- (carrying.rt), `put_register` (carrying.rt), `put_registers` (carrying.rt), `connect_field`
-- (fields.rt), and others.
-- Read by: definitions in Effect.
-- Laws: none names a definition of this file itself.
-- Change: the meaning is fixed by docs/machine.md, since the contracts of `st_top::stretch` and
-- `st_account::ledger` unfold to a definition here. The form is free, with the proofs that unfold
-- it.
use Rattle.std.specs.Prelude.{ℕ, ◌*◌, ◌/◌, ◌%◌, ◌^◌, Bool, true, false, if◌then◌else◌, Option, None, Some}
use Rattle.st_bits.specs.declared.register.TheConstants.{COUNTS, LEFT_HALF, RIGHT_HALF, SIGN_BYTE, INDICATORS, REMAINDER, FACTOR, TRANSIT}
use Rattle.st_bits.specs.Bits.{bits}
use Rattle.st_bits.specs.declared.operations.ConnKind.{ConnKind}
use Rattle.st_bits.specs.declared.operations.VflOp.{VflOp}
use Rattle.st_state.specs.Machine.{Machine, word, state_with_store, state_with_bits}
use Rattle.st_state.specs.Interrupts.{state_with_indicators}
use Rattle.st_field.specs.declared.accumulator.Acc.{Acc}
use Rattle.st_field.specs.declared.fields.Shape.{Shape}
use Rattle.st_field.specs.declared.outcome.Done.{Done}
use Rattle.st_bin.specs.BinaryResult.{result as binary_result}
use Rattle.st_dec.specs.DecimalResult.{result as decimal_result}
use Rattle.st_conn.specs.Connection.{connection}
use Rattle.st_prep.specs.Entry.{reads_field}
use Rattle.st_exec.specs.Operand.{operand_bits, accumulator}

-- ---- the result

-- the shape of a field by the fields of the instruction
abbrev pub shape_of : Bool → Bool → ℕ → ℕ → ℕ → Shape
shape_of u n length byte offset =
    record { length = length; byte = byte; unsigned = u; negated = n; offset = offset }

-- the bits of the field that an operation reads; 0 for ST, which does not read its field
abbrev pub bits_taken : VflOp → ℕ → ℕ → ℕ → Machine → ℕ
bits_taken op p e n t = if reads_field op then operand_bits p e n t else 0

-- the result of an operation, decimal or binary; ft is the factor register, ind the indicators
abbrev pub result_by : Bool → VflOp → Acc → ℕ → Shape → ℕ → ℕ → Done
result_by false op a x h ft ind = binary_result op a x h ft ind
result_by true op a x h ft ind = decimal_result op a x h ind

-- the result of an operation on the field at bit e in state t
unfoldable pub operation_outcome : Bool → VflOp → Shape → ℕ → ℕ → Machine → Done
operation_outcome d op h p e t =
    result_by d op (accumulator t) (bits_taken op p e h.length t) h (word t FACTOR)
    (word t INDICATORS)

-- the result of a connective on the field of n bits at bit e in state t
unfoldable pub connects : ConnKind → ℕ → ℕ → ℕ → ℕ → ℕ → Machine → Done
connects kind table p e offset n t = connection kind table (accumulator t) offset
    (operand_bits p e n t) n

-- ---- the state after the result is written

-- the state with register w set to the value, if there is one
abbrev pub with_register : ℕ → Option ℕ → Machine → Machine
with_register w None t = t
with_register w (Some x) t = state_with_store t w x

-- the state with the accumulator in its two words and its sign byte
abbrev pub with_accumulator : Acc → Machine → Machine
with_accumulator a t =
    state_with_store (state_with_store (state_with_store t LEFT_HALF (a.mag / 2 ^ 64)) RIGHT_HALF
    (a.mag % 2 ^ 64)) SIGN_BYTE (a.sb * 2 ^ 56)

-- the state with all registers of a result set
unfoldable pub with_registers : Done → Machine → Machine
with_registers o t = with_register COUNTS o.counts
    (with_register TRANSIT o.tr
    (with_register FACTOR o.ft (with_register REMAINDER o.rm (with_accumulator o.acc t))))

-- the state with the n bits of storage from bit a replaced, if the field is written
abbrev pub with_field : Option ℕ → ℕ → ℕ → Machine → Machine
with_field None a n t = t
with_field (Some x) a n t = state_with_bits t a (bits n x)

-- the state after a result is written: registers first, then the indicators, then the field
unfoldable pub with_result : Done → ℕ → ℕ → Machine → Machine
with_result o a n t = with_field o.field a n (state_with_indicators o.ind (with_registers o t))
