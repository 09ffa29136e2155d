-- All entries except transmissions read and write at most two words each, in one run.
use Rattle.st_prep.proofs.Common.{◌≡◌, ℕ, ◌+◌, ◌/◌, ◌%◌, ◌≤◌, Bool, true, false, ◌==◌, if◌then◌else◌, refl, sym, subst, arith, nat_le, Variable, Connective, Instr, Half, Branch, Floating, Vfl, Connect, Move, BitBranch, IndBranch, StoreCounter, Transfer, Invalid, writes_field, Prepared, no_words, one_run, field_words, operand_words, is_index_store, reads_field, reads, words_written, IsPrepared}
use Rattle.st_prep.specs.FewWords.{is_transmission, AreFew}
use Rattle.st_prep.proofs.Choices.{of_choice}

none-few : AreFew no_words
none-few = record { few = omega arith; one_run = refl }

one-few : (w n : ℕ) → n ≤ 2 → AreFew (one_run w n)
one-few w n h = record { few = h; one_run = refl }

word-few : (w : ℕ) → AreFew (one_run w 1)
word-few w = one-few w 1 (omega arith)

field-few : (e n : ℕ) → AreFew (field_words e n)
unfolding field_words
field-few e n =
    one-few (e / 64) (if nat_le (e % 64 + n) 64 then 1 else 2)
    (of_choice (λ m. m ≤ 2) (nat_le (e % 64 + n) 64) 1 2 (omega arith) (omega arith))

operand-few : (p e n : ℕ) → AreFew (operand_words p e n)
operand-few p e n = of_choice AreFew (p == 1) no_words (field_words e n) none-few (field-few e n)

reads-few : (instr : Instr) (e : ℕ) → is_transmission instr ≡ false → AreFew (reads instr e)
unfolding reads
reads-few (Vfl op d u n p l b o a i) e h =
    of_choice AreFew (reads_field op) (operand_words p e l) no_words (operand-few p e l) none-few
reads-few (Connect k t p l b o a i) e h = operand-few p e l
reads-few (BitBranch s c a i second) e h = word-few (e / 64)
reads-few (Move s a i second n) e h = absurd (cc)
reads-few (Half op a j i) e h = none-few
reads-few (Branch op a i) e h = none-few
reads-few (Floating n a i) e h = none-few
reads-few (IndBranch s off a i second) e h = none-few
reads-few (StoreCounter a i second) e h = none-few
reads-few (Transfer w a i n) e h = none-few
reads-few (Invalid first second full) e h = none-few

writes-few : (instr : Instr) (e : ℕ) → is_transmission instr ≡ false → AreFew (words_written instr e)
unfolding words_written
writes-few (Half op a j i) e h =
    of_choice AreFew (is_index_store op) (one_run (e / 64) 1) no_words (word-few (e / 64)) none-few
writes-few (Vfl op d u n p l b o a i) e h =
    of_choice AreFew (writes_field (Variable op)) (field_words e l) no_words (field-few e l) none-few
writes-few (Connect k t p l b o a i) e h =
    of_choice AreFew (writes_field (Connective k)) (field_words e l) no_words (field-few e l) none-few
writes-few (BitBranch s c a i second) e h =
    of_choice AreFew (c == 0) no_words (one_run (e / 64) 1) none-few (word-few (e / 64))
writes-few (StoreCounter a i second) e h = word-few (e / 64)
writes-few (Move s a i second n) e h = absurd (cc)
writes-few (Branch op a i) e h = none-few
writes-few (Floating n a i) e h = none-few
writes-few (IndBranch s off a i second) e h = none-few
writes-few (Transfer w a i n) e h = none-few
writes-few (Invalid first second full) e h = none-few

few-read : (b : Bool) (p : Prepared) → p.suppressed ≡ b → IsPrepared p → is_transmission p.instr ≡ false → AreFew p.reads
few-read true p e h other = subst AreFew (sym (h.suppressed e).reads) none-few
few-read false p e h other = subst AreFew (sym (h.entry e).reads) (reads-few p.instr p.e other)

few-written : (b : Bool) (p : Prepared) → p.suppressed ≡ b → IsPrepared p → is_transmission p.instr ≡ false
    → AreFew p.writes
few-written true p e h other = subst AreFew (sym (h.suppressed e).writes) none-few
few-written false p e h other = subst AreFew (sym (h.entry e).writes) (writes-few p.instr p.e other)

pub prepared-read_few : (p : Prepared) → IsPrepared p → is_transmission p.instr ≡ false → AreFew p.reads
prepared-read_few p h other = few-read p.suppressed p refl h other

pub prepared-written_few : (p : Prepared) → IsPrepared p → is_transmission p.instr ≡ false → AreFew p.writes
prepared-written_few p h other = few-written p.suppressed p refl h other

pub prepared-most : (p : Prepared) → IsPrepared p → (p.reads.len + p.reads.len2 ≤ 32) × (p.writes.len + p.writes.len2 ≤ 32)
prepared-most p h = (omega (arith, h.reads.few, h.reads.few2), omega (arith, h.writes.few, h.writes.few2))
