-- Effective addresses, and changes of index words before the operands of an instruction are read.
--
-- Proved: by their `ensures` clauses these calls do what definitions here say: `bit_address`
-- (addresses.rt), `effective_address` (addresses.rt), `field_address` (addresses.rt),
-- `half_address` (addresses.rt), and others.
-- Read by: definitions in Plan, Reading, Ahead of st_exec, Unwinding of st_ring.
-- Laws: SpeculativeChangesLeaveTheirIndexWords (specs/Laws.antt of st_exec), IndexWordsRunAhead
-- (specs/Laws.antt of st_segment).
-- Change: the meaning is fixed by docs/machine.md, since the contracts of `st_top::stretch` and
-- `st_account::ledger` unfold to a definition here. The form is free, with the proofs that unfold
-- it.
use Rattle.std.specs.Prelude.{ℕ, ◌*◌, ◌/◌, ℤ, pos, neg_ℤ, ◌==◌, nat_lt, if◌then◌else◌, List, slice_index, slice_set, Option, None, Some, unwrap_or}
use Rattle.st_bits.specs.Bits.{bits, part, with_part}
use Rattle.st_bits.specs.IndexWord.{index_value, count_of, refill_of, index_word_with_value, with_count, with_refill}
use Rattle.st_bits.specs.declared.operations.HalfOp.{HalfOp}
use Rattle.st_bits.specs.declared.operations.HalfOp.TheVariants.{Lx, Lv, Lc, Lr, VPlus, VPlusC, Kv, Lvs, Lvi, Lci, Lri, VPlusI, VMinusI, VPlusIC, VPlusICR, Kvi, Kc, Kci, Cb, Cbr, R}
use Rattle.st_format.specs.declared.instruction.Instr.{Instr}
use Rattle.st_format.specs.declared.instruction.Instr.TheVariants.{Half, Branch, Floating, Vfl, Connect, Move, BitBranch, IndBranch, StoreCounter, Transfer, Invalid}
use Rattle.st_index.specs.IndexChange.{effective_address, with_added, with_lower_count, selected_sum, comparison, index_result, progressive_word, progression}
use Rattle.st_prep.specs.declared.entries.IndexChange.{IndexChange}
use Rattle.st_prep.specs.declared.speculative.SpeculativeChange.{SpeculativeChange}

-- ---- effective addresses

-- index word I, or zero if I is 0
unfoldable pub index_operand : List ℕ → ℕ → ℕ
index_operand x i = if i == 0 then 0 else slice_index x i

-- the effective address of a half-word instruction, whose address part is a half-word address
unfoldable pub half_word_address : List ℕ → ℕ → ℕ → ℕ
half_word_address x address i = effective_address (32 * address) (index_operand x i)

-- the effective address of a full-word instruction
unfoldable pub full_word_address : List ℕ → ℕ → ℕ → ℕ
full_word_address x address i = effective_address address (index_operand x i)

-- the effective address of a field; in a progressive form, the old value of its index word
unfoldable pub field_address : List ℕ → ℕ → ℕ → ℕ → ℕ
field_address x p address i =
    if nat_lt p 2 then full_word_address x address i else effective_address 0 (slice_index x i)

-- the effective address of an instruction, a bit address; 0 for an invalid instruction
unfoldable pub effective : List ℕ → Instr → ℕ
effective x (Half op address j i) = half_word_address x address i
effective x (Branch op address i) = half_word_address x address i
effective x (Floating number address i) = half_word_address x address i
effective x (Vfl op d u n p length byte offset address i) = field_address x p address i
effective x (Connect kind table p length byte offset address i) = field_address x p address i
effective x (Move swap address i second count) = full_word_address x address i
effective x (BitBranch sense change address i second) = full_word_address x address i
effective x (IndBranch sense off address i second) = full_word_address x address i
effective x (StoreCounter address i second) = full_word_address x address i
effective x (Transfer write address i count) = full_word_address x address i
effective x (Invalid first second full) = 0

-- ---- the index-side word

-- the refill address of an index word, if its count has become zero
unfoldable pub refill_word : ℕ → Option ℕ
refill_word y = if count_of y == 0 then Some (refill_of y) else None

-- the word that a half-word instruction reads for index word J, whose content is x
unfoldable pub half_side : HalfOp → ℕ → ℕ → Option ℕ
half_side Lx x e = Some (e / 64)
half_side Lv x e = Some (e / 64)
half_side Lc x e = Some (e / 64)
half_side Lr x e = Some (e / 64)
half_side VPlus x e = Some (e / 64)
half_side VPlusC x e = Some (e / 64)
half_side Kv x e = Some (e / 64)
half_side Kc x e = Some (e / 64)
half_side VPlusICR x e = refill_word (with_lower_count (with_added x (pos e)))
half_side Cbr x e = refill_word (with_lower_count x)
half_side R x e = Some (refill_of x)
half_side _ x e = None

-- the word that a progressive form reads for its index word, whose content is x
unfoldable pub progressive_side : ℕ → ℕ → ℕ → Option ℕ
progressive_side p x address = if nat_lt p 2 then None
    else let c = progression p x address in if c.refill then Some (refill_of c.word) else None

-- the index-side word of an instruction with the effective address e
unfoldable pub side : List ℕ → Instr → ℕ → Option ℕ
side x (Half op address j i) e = half_side op (slice_index x j) e
side x (Vfl _ _ _ _ p _ _ _ address i) e = progressive_side p (slice_index x i) address
side x (Connect _ _ p _ _ _ address i) e = progressive_side p (slice_index x i) address
side x _ e = None

-- ---- the change

-- no change
abbrev pub without_change : SpeculativeChange
without_change = record { index = None; ind = record { on = 0; off = 0 } }

-- the change by a comparison of two numbers: only indicators change
unfoldable pub change_of_comparison : ℤ → ℤ → SpeculativeChange
change_of_comparison a b = record { index = None; ind = comparison a b }

-- index word j, which was x, becomes y, then the word of a refill if there is one
unfoldable pub change_of_index : ℕ → ℕ → ℕ → Option ℕ → SpeculativeChange
change_of_index j x y refill = record {
  index = Some (record { number = j; kept = x; word = unwrap_or refill y });
  ind = index_result y;
}

-- the change by a half-word instruction: x is index word j, a the address part, r the word it reads
unfoldable pub half_change : HalfOp → List ℕ → ℕ → ℕ → ℕ → ℕ → Option ℕ → SpeculativeChange
half_change Lx xs a j x e r = change_of_index j x (unwrap_or r 0) None
half_change Lv xs a j x e r = change_of_index j x
    (with_part x 0 25 (part (unwrap_or r 0) 0 25)) None
half_change Lc xs a j x e r = change_of_index j x (with_count x (count_of (unwrap_or r 0))) None
half_change Lr xs a j x e r = change_of_index j x (with_refill x (refill_of (unwrap_or r 0))) None
half_change VPlus xs a j x e r = change_of_index j x
    (with_added x (index_value (unwrap_or r 0))) None
half_change VPlusC xs a j x e r =
    change_of_index j x (with_lower_count (with_added x (index_value (unwrap_or r 0)))) None
half_change Kv xs a j x e r = change_of_comparison (index_value x) (index_value (unwrap_or r 0))
half_change Lvs xs a j x e r =
    change_of_index j x (index_word_with_value x (selected_sum (bits 16 (a / 8)) xs)) None
half_change Lvi xs a j x e r = change_of_index j x (index_word_with_value x (pos e)) None
half_change Lci xs a j x e r = change_of_index j x (with_count x (e / 64)) None
half_change Lri xs a j x e r = change_of_index j x (with_refill x (e / 64)) None
half_change VPlusI xs a j x e r = change_of_index j x (with_added x (pos e)) None
half_change VMinusI xs a j x e r = change_of_index j x (with_added x (neg_ℤ (pos e))) None
half_change VPlusIC xs a j x e r = change_of_index j x
    (with_lower_count (with_added x (pos e))) None
half_change VPlusICR xs a j x e r = change_of_index j x (with_lower_count (with_added x (pos e))) r
half_change Kvi xs a j x e r = change_of_comparison (index_value x) (pos e)
half_change Kc xs a j x e r =
    change_of_comparison (pos (count_of x)) (pos (count_of (unwrap_or r 0)))
half_change Kci xs a j x e r = change_of_comparison (pos (count_of x)) (pos (e / 64))
half_change Cb xs a j x e r = change_of_index j x (with_lower_count x) None
half_change Cbr xs a j x e r = change_of_index j x (with_lower_count x) r
half_change R xs a j x e r = change_of_index j x (unwrap_or r 0) None
half_change _ xs a j x e r = without_change

-- the change of index word i, whose content is x, by a progressive form
unfoldable pub progressive_change : ℕ → ℕ → ℕ → ℕ → Option ℕ → SpeculativeChange
progressive_change p i x address read =
    if nat_lt p 2 then without_change else change_of_index i x (progressive_word p x address) read

-- the change by an instruction with effective address e, given the content of its index-side word
unfoldable pub change : List ℕ → Instr → ℕ → Option ℕ → SpeculativeChange
change x (Half op address j i) e read = half_change op x address j (slice_index x j) e read
change x (Vfl op d u n p length byte offset address i) e read =
    progressive_change p i (slice_index x i) address read
change x (Connect kind table p length byte offset address i) e read =
    progressive_change p i (slice_index x i) address read
change x _ e read = without_change

-- the index words after a change
abbrev pub words_after : List ℕ → Option IndexChange → List ℕ
words_after x None = x
words_after x (Some c) = slice_set x c.number c.word
