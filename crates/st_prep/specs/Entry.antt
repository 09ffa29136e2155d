-- The parts of an entry that follow from its instruction: the words that it reads and writes, the
-- counter after it, the value that it stores, its cost, and whether it is serializing.
--
-- Proved: by their `ensures` clauses these calls do what definitions here say: `after`
-- (outcome.rt), `after_branch` (outcome.rt), `after_count` (outcome.rt), `after_half` (outcome.rt),
-- and others.
-- Read by: definitions in Plan, Ranges, Operand of st_exec, EntryLines of st_lines, and others.
-- Laws: none names a definition of this file itself.
-- Change: the meaning is fixed by docs/machine.md, since the contracts of `st_top::stretch` and
-- `st_account::ledger` unfold to a definition here. The form is free, with the proofs that unfold
-- it.
use Rattle.std.specs.Prelude.{ℕ, ◌+◌, ◌/◌, ◌%◌, ◌^◌, Bool, true, false, not, ◌==◌, ◌&&◌, ◌||◌, nat_lt, nat_le, if◌then◌else◌, List, slice_index, Option, None, Some}
use Rattle.st_bits.specs.declared.register.TheConstants.{FIRST_STORAGE_WORD}
use Rattle.st_bits.specs.Bits.{part}
use Rattle.st_bits.specs.IndexWord.{count_of, refill_of}
use Rattle.st_bits.specs.declared.operations.HalfOp.{HalfOp}
use Rattle.st_bits.specs.declared.operations.HalfOp.TheVariants.{Sx, Sv, Sc, Sr, Sva, Cb, Cbr}
use Rattle.st_bits.specs.declared.operations.BranchOp.{BranchOp}
use Rattle.st_bits.specs.declared.operations.BranchOp.TheVariants.{Br, Be, Bd, Bew, Nop}
use Rattle.st_bits.specs.declared.operations.VflOp.{VflOp}
use Rattle.st_bits.specs.declared.operations.VflOp.TheVariants.{St, Mul, MulAdd, Div, Lcv}
use Rattle.st_format.specs.declared.operations.FullOp.TheVariants.{Variable, Connective}
use Rattle.st_format.specs.declared.instruction.Instr.{Instr}
use Rattle.st_format.specs.declared.instruction.Instr.TheVariants.{Half, Branch, Vfl, Connect, Move, BitBranch, StoreCounter, Transfer}
use Rattle.st_format.specs.Operations.{writes_field}
use Rattle.st_index.specs.IndexChange.{one_less}
use Rattle.st_prep.specs.declared.entries.Place.{Place}
use Rattle.st_prep.specs.declared.entries.Words.{Words}

-- ---- the words that are read and written

-- no words; n words from the word w; n words from the word w, followed by n words from the word v
abbrev pub no_words : Words
no_words = record { first = 0; len = 0; first2 = 0; len2 = 0 }

abbrev pub one_run : ℕ → ℕ → Words
one_run w n = record { first = w; len = n; first2 = 0; len2 = 0 }

abbrev pub two_runs : ℕ → ℕ → ℕ → Words
two_runs w v n = record { first = w; len = n; first2 = v; len2 = n }

-- the one or two words that contain the n bits from bit e
unfoldable pub field_words : ℕ → ℕ → Words
field_words e n = one_run (e / 64) (if nat_le (e % 64 + n) 64 then 1 else 2)

-- the words of an operand; an operand in the address part (form 1) has none
abbrev pub operand_words : ℕ → ℕ → ℕ → Words
operand_words p e n = if p == 1 then no_words else field_words e n

-- the words that a transmission reads and writes
abbrev pub words_moved_from : Bool → ℕ → ℕ → ℕ → Words
words_moved_from false from to n = one_run from n
words_moved_from true from to n = two_runs from to n

abbrev pub words_moved_to : Bool → ℕ → ℕ → ℕ → Words
words_moved_to false from to n = one_run to n
words_moved_to true from to n = two_runs from to n

-- whether an operation stores index word J or a part of it
abbrev pub is_index_store : HalfOp → Bool
is_index_store Sx = true
is_index_store Sv = true
is_index_store Sc = true
is_index_store Sr = true
is_index_store Sva = true
is_index_store _ = false

-- whether an operation reads its field: all but ST
abbrev pub reads_field : VflOp → Bool
reads_field St = false
reads_field _ = true

-- the words that an instruction with the effective address e reads, in order
unfoldable pub reads : Instr → ℕ → Words
reads (Vfl op d u n p length byte offset address i) e = if reads_field op
    then operand_words p e length else no_words
reads (Connect kind table p length byte offset address i) e = operand_words p e length
reads (Move swap address i second count) e = words_moved_from swap (e / 64) (second / 2) count
reads (BitBranch sense change address i second) e = one_run (e / 64) 1
reads _ e = no_words

-- the words that an instruction with the effective address e writes, in order
unfoldable pub words_written : Instr → ℕ → Words
words_written (Half op address j i) e = if is_index_store op then one_run (e / 64) 1 else no_words
words_written (Vfl op d u n p length byte offset address i) e =
    if writes_field (Variable op) then field_words e length else no_words
words_written (Connect kind table p length byte offset address i) e =
    if writes_field (Connective kind) then field_words e length else no_words
words_written (Move swap address i second count) e = words_moved_to swap (e / 64) (second / 2) count
words_written (BitBranch _ change _ _ _) e = if change == 0 then no_words else one_run (e / 64) 1
words_written (StoreCounter address i second) e = one_run (e / 64) 1
words_written _ e = no_words

-- ---- the counter

-- the counter of the following instruction, n half-words on; a table instruction does not change the counter
abbrev pub next_by : Option ℕ → ℕ → ℕ → ℕ
next_by None counter n = (counter + n) % 2 ^ 19
next_by (Some _) counter n = counter

unfoldable pub counter_behind : Place → ℕ → ℕ
counter_behind place n = next_by place.table place.counter n

-- the counter after a branch on a count, which is taken until the count is zero; x is index word J before
abbrev pub after_count : ℕ → ℕ → ℕ → ℕ
after_count x e following = if one_less (count_of x) == 0 then following else e / 32

abbrev pub after_half : HalfOp → ℕ → ℕ → ℕ → ℕ
after_half Cb x e following = after_count x e following
after_half Cbr x e following = after_count x e following
after_half _ x e following = following

-- the counter after a branch; BR adds to the counter before it
abbrev pub after_branch : BranchOp → ℕ → ℕ → ℕ → ℕ
after_branch Br counter e following = (counter + e / 32) % 2 ^ 19
after_branch Bew counter e following = following
after_branch Nop counter e following = following
after_branch _ counter e following = e / 32

-- the counter after an instruction; branches on a bit and on an indicator are decided at completion
unfoldable pub counter_after : Instr → List ℕ → ℕ → ℕ → ℕ → ℕ
counter_after (Half op _ j _) x e _ following = after_half op (slice_index x j) e following
counter_after (Branch op address i) x e counter following = after_branch op counter e following
counter_after (StoreCounter address i second) x e counter following = second
counter_after _ x e counter following = following

-- ---- what is stored

-- the part of index word J that an index store writes
abbrev pub stored_part : HalfOp → ℕ → ℕ
stored_part Sx x = x
stored_part Sv x = part x 0 25
stored_part Sc x = count_of x
stored_part Sr x = refill_of x
stored_part Sva x = part x 0 19
stored_part _ x = 0

-- the value that an instruction stores; SIC stores the address of the following instruction
unfoldable pub value_stored : Instr → List ℕ → ℕ → ℕ
value_stored (Half op address j i) x following = stored_part op (slice_index x j)
value_stored (StoreCounter address i second) x following = following
value_stored _ x following = 0

-- ---- the cost, in ticks

abbrev pub binary_cost : VflOp → ℕ
binary_cost Mul = 12
binary_cost MulAdd = 12
binary_cost Div = 24
binary_cost Lcv = 24
binary_cost _ = 2

abbrev pub decimal_cost : VflOp → ℕ
decimal_cost Lcv = 24
decimal_cost _ = 4

unfoldable pub cost : Instr → ℕ
cost (Vfl op d u n p length byte offset address i) = if d then decimal_cost op else binary_cost op
cost (Connect kind table p length byte offset address i) = 2
cost (Move swap address i second count) = count
cost _ = 1

-- ---- serializing entries

-- whether a branch is serializing by its operation
abbrev pub is_serial_branch : BranchOp → Bool
is_serial_branch Be = true
is_serial_branch Bd = true
is_serial_branch Bew = true
is_serial_branch _ = false

unfoldable pub is_serial_operation : Instr → Bool
is_serial_operation (Branch op address i) = is_serial_branch op
is_serial_operation (Move swap address i second count) = true
is_serial_operation (BitBranch sense change address i second) = true
is_serial_operation (StoreCounter address i second) = true
is_serial_operation (Transfer write address i count) = true
is_serial_operation _ = false

-- whether a register is among the words
unfoldable pub has_register : Words → Bool
has_register w = (not (w.len == 0) && nat_lt w.first FIRST_STORAGE_WORD)
    || (not (w.len2 == 0) && nat_lt w.first2 FIRST_STORAGE_WORD)

abbrev pub is_register : Option ℕ → Bool
is_register None = false
is_register (Some w) = nat_lt w FIRST_STORAGE_WORD
