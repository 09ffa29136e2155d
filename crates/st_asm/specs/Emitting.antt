-- The bits that a statement assembles to.
--
-- Proved: by their `ensures` clauses these calls do what definitions here say: `bits_of`
-- (emitting.rt), `half_word` (emitting.rt), `index_of` (emitting.rt), `index_word_bits`
-- (emitting.rt), and others.
-- Read by: definitions in Valuing, Alone.
-- Laws: none names a definition of this file itself.
-- Change: the meaning is fixed by docs/strap.md, since the contracts of `st_top::stretch` and
-- `st_account::ledger` unfold to a definition here. The form is free, with the proofs that unfold
-- it.
use Rattle.std.specs.Prelude.{ℕ, ℤ, ◌+◌, ◌*◌, ◌/◌, ◌^◌, unsigned_abs, Option, Some, None}
use Rattle.st_bits.specs.Bits.{with_part}
use Rattle.st_bits.specs.IndexWord.{index_word_with_value, with_count, with_refill}
use Rattle.st_bits.specs.declared.operations.HalfOp.TheVariants.{Lvs, R}
use Rattle.st_format.specs.Formats.{first_half, second_half}
use Rattle.st_format.specs.declared.instruction.Instr.{Instr}
use Rattle.st_format.specs.declared.instruction.Instr.TheVariants as emitted
use Rattle.st_strap.specs.Statements.{Spot, Statement}
use Rattle.st_strap.specs.declared.statement.Statement.TheVariants.{Half, Sum, Refill, Branch, Floating, Vfl, Connect, Move, BitBranch, IndBranch, StoreCounter, Transfer, Data, IndexWord}
use Rattle.st_asm.specs.declared.values.Values.{Values}
use Rattle.st_asm.specs.Numbers.{field_bits_of}

-- the half-word address of a bit address
abbrev pub half_word_bits : ℤ → ℕ
half_word_bits a = unsigned_abs a / 32

-- the index word of an address, 0 if there is no address
abbrev pub spot_index : Option Spot → ℕ
spot_index None = 0
spot_index (Some at) = at.index

-- the one or two half-words of an instruction as one number
abbrev pub number_of_halves : ℕ → Option ℕ → ℕ
number_of_halves first None = first
number_of_halves first (Some second) = first * 2 ^ 32 + second

-- the bits of an instruction, as a number
abbrev pub instruction_bits : Instr → ℕ
instruction_bits instr = number_of_halves (first_half instr) (second_half instr)

-- the bits of an index word: value, count, refill address (a bit address), and flags in bits 25-27
unfoldable pub index_word_bits : ℤ → ℕ → ℤ → ℕ → ℕ
index_word_bits value count refill flags =
    with_part (with_refill (with_count (index_word_with_value 0 value) count)
    (unsigned_abs refill / 64)) 25 3 flags

-- the bits of a statement, as a number; the list of LVS is in the first 16 of the address's 19 bits
unfoldable pub bits_of : Statement → Values → ℕ
bits_of (Half op j at) v = instruction_bits (emitted.Half op (half_word_bits v.first) j at.index)
bits_of (Sum j listed) v = instruction_bits (emitted.Half Lvs (listed * 8) j 0)
bits_of (Refill j) v = instruction_bits (emitted.Half R 0 j 0)
bits_of (Branch op at) v = instruction_bits (emitted.Branch op (half_word_bits v.first)
    (spot_index at))
bits_of (Floating number at) v = instruction_bits (emitted.Floating number
    (half_word_bits v.first) at.index)
bits_of (Vfl op negated f at offset) v = instruction_bits
    (emitted.Vfl op f.decimal f.unsigned negated f.p f.length f.byte offset
    (unsigned_abs v.first) at.index)
bits_of (Connect kind truth f at offset) v = instruction_bits
    (emitted.Connect kind truth f.p f.length f.byte offset (unsigned_abs v.first) at.index)
bits_of (Move swap at second count) v = instruction_bits
    (emitted.Move swap (unsigned_abs v.first) at.index (half_word_bits v.second) count)
bits_of (BitBranch sense change at second) v = instruction_bits
    (emitted.BitBranch sense change (unsigned_abs v.first) at.index (half_word_bits v.second))
bits_of (IndBranch sense off at second) v = instruction_bits
    (emitted.IndBranch sense off (unsigned_abs v.first) at.index (half_word_bits v.second))
bits_of (StoreCounter at second) v = instruction_bits
    (emitted.StoreCounter (unsigned_abs v.first) at.index (half_word_bits v.second))
bits_of (Transfer write at count) v =
    instruction_bits (emitted.Transfer write (unsigned_abs v.first) at.index count)
bits_of (Data form minus number) v = field_bits_of form minus number
bits_of (IndexWord value count refill flags) v = index_word_bits v.first count v.second flags
bits_of _ v = 0
