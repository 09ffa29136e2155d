-- The operands of an operation: a field of storage or the address itself, and the accumulator.
--
-- Proved: by their `ensures` clauses these calls do what definitions here say: `read_operands`
-- (execution.rt), `accumulator` (fields.rt), `operand` (fields.rt), `registers` (fields.rt), and
-- others.
-- Read by: definitions in Outcome, Completion, Effect, Trails.
-- Laws: none names a definition of this file itself.
-- Change: the meaning is fixed by docs/machine.md, since the contracts of `st_top::stretch` and
-- `st_account::ledger` unfold to a definition here. The form is free, with the proofs that unfold
-- it.
use Rattle.std.specs.Prelude.{ℕ, ◌≡◌, ◌+◌, ◌*◌, ◌<◌, ◌≤◌, ◌^◌, ◌==◌, List, slice_index, if◌then◌else◌}
use Rattle.st_bits.specs.declared.register.TheConstants.{LEFT_HALF, RIGHT_HALF, SIGN_BYTE}
use Rattle.st_bits.specs.Bits.{all_bits, field, num, part}
use Rattle.st_state.specs.Machine.{Machine, word}
use Rattle.st_field.specs.declared.accumulator.Acc.{Acc}
use Rattle.st_bits.specs.declared.operations.VflOp.{VflOp}
use Rattle.st_prep.specs.Entry.{no_words, operand_words, reads_field}
use Rattle.st_prep.specs.declared.entries.Words.{Words}

-- the operands are the words of both ranges, in order, in the given state
pub record AreOperands (w : Words) (operands : List ℕ) (s : Machine) : Type 0 where
  pub first : (k : ℕ) → k < w.len → slice_index operands k ≡ word s (w.first + k)
  pub second : (k : ℕ) → k < w.len2 → slice_index operands (w.len + k) ≡ word s (w.first2 + k)

-- the first two operands are the first two words of the first range in the given state; only
-- transmissions read more
pub record AreFirstOperands (w : Words) (operands : List ℕ) (s : Machine) : Type 0 where
  pub first : (k : ℕ) → k < 2 → k < w.len → slice_index operands k ≡ word s (w.first + k)

-- those of the first two operands that lie above the registers are the words of the state; the
-- entry itself can change registers before its operands are read
pub record AreRead (w : Words) (operands : List ℕ) (t : Machine) : Type 0 where
  pub first : (k : ℕ) → k < 2 → k < w.len → 32 ≤ w.first + k → slice_index operands k
      ≡ word t (w.first + k)

-- the words that an operation on a field of n bits at e reads: none if it does not read its field
abbrev pub taken_words : VflOp → ℕ → ℕ → ℕ → Words
taken_words op p e n = if reads_field op then operand_words p e n else no_words

-- the number in the n bits of storage from bit address a
abbrev pub field_at : Machine → ℕ → ℕ → ℕ
field_at s a n = num (field (all_bits s.words) a n)

-- the operand of n bits at bit address e; in form 1, the first n of the 24 bits of e itself
abbrev pub operand_bits : ℕ → ℕ → ℕ → Machine → ℕ
operand_bits p e n s = if p == 1 then part e 40 n else field_at s e n

-- the accumulator of a state, with its sign byte
abbrev pub accumulator : Machine → Acc
accumulator s =
    record { mag = word s LEFT_HALF * 2 ^ 64 + word s RIGHT_HALF; sb = part (word s SIGN_BYTE) 0 8 }
