-- The number of words that an entry reads.
use Rattle.st_prep.proofs.Common.{ℕ, ◌+◌, ◌/◌, ◌%◌, ◌<◌, ◌≤◌, Bool, true, false, ◌==◌, if◌then◌else◌, List, length, Option, None, Some, arith, IfSome, nat_le, Instr, Half, Branch, Floating, Vfl, Connect, Move, BitBranch, IndBranch, StoreCounter, Transfer, Invalid, Machine, IsMachine, word, Words, effective, side, no_words, field_words, operand_words, words_moved_from, reads_field, reads, effective_instr, index_words, place_of, DecodeContext, resolved_at, resolved, needs_by, needs, suppressed_entry, entry_at, prepared_by, prepared_entry, decode_context, side_word, plan, HasFields, reading_at_place, index_side_words}
use Rattle.st_prep.specs.Reading.{words_read as instruction_words}
use Rattle.st_prep.proofs.Choices.{of_choice}
use Rattle.st_prep.proofs.PlanLemmas.{decode_context-fits}
use Rattle.st_prep.proofs.PreparedLemmas.{IsDecodeContext, executed-shape}
use Rattle.st_prep.proofs.ReadingLemmas.{reading-few}

-- at most this number of operand words
abbrev pub IsFew : ℕ → Words → Type 0
IsFew n w = w.len + w.len2 ≤ n

count-one : (o : Option ℕ) → index_side_words o ≤ 1
count-one None = omega arith
count-one (Some w) = omega arith

few-field : (e n : ℕ) → IsFew 2 (field_words e n)
unfolding field_words
few-field e n =
    of_choice (λ (m : ℕ). m + 0 ≤ 2) (nat_le (e % 64 + n) 64) 1 2 (omega arith) (omega arith)

few-operand : (p e n : ℕ) → IsFew 2 (operand_words p e n)
few-operand p e n = of_choice (IsFew 2) (p == 1) no_words (field_words e n) (omega arith) (few-field e n)

few-move : (swap : Bool) (from to n : ℕ) → n ≤ 16 → IsFew 32 (words_moved_from swap from to n)
few-move false from to n few = omega arith
few-move true from to n few = omega arith

-- the operand words with the index-side word
few-read : (x : List ℕ) (instr : Instr) (e : ℕ) → HasFields instr
    → (reads instr e).len + (reads instr e).len2 + index_side_words (side x instr e) ≤ 32
unfolding reads side
few-read x (Half op a j i) e s = omega (arith, count-one (side x (Half op a j i) e))
few-read x (Vfl op d u n p l b o a i) e s =
    let few : IsFew 2 (if reads_field op then operand_words p e l else no_words) =
    of_choice (IsFew 2) (reads_field op) (operand_words p e l) no_words (few-operand p e l) (omega arith) in
    omega (arith, count-one (side x (Vfl op d u n p l b o a i) e))
few-read x (Connect k t p l b o a i) e s =
    let few : IsFew 2 (operand_words p e l) = few-operand p e l in
    omega (arith, count-one (side x (Connect k t p l b o a i) e))
few-read x (Move swap a i second n) e s =
    let few : IsFew 32 (words_moved_from swap (e / 64) (second / 2) n) = few-move swap (e / 64) (second / 2) n s.3 in
    omega arith
few-read x (Branch op a i) e s = omega arith
few-read x (Floating n a i) e s = omega arith
few-read x (BitBranch sense c a i second) e s = omega arith
few-read x (IndBranch sense off a i second) e s = omega arith
few-read x (StoreCounter a i second) e s = omega arith
few-read x (Transfer w a i n) e s = omega arith
few-read x (Invalid first second full) e s = omega arith

few-by_fault : (f : Option ℕ) (s : DecodeContext) (r : Option ℕ) → IsDecodeContext s
    → (prepared_by f s.place (resolved s) s.x r).reads.len + (prepared_by f s.place (resolved s) s.x r).reads.len2
    + index_side_words (needs_by f (resolved s)).index_read
    ≤ 32
unfolding entry_at suppressed_entry resolved resolved_at
few-by_fault None s r k =
    few-read s.x (effective_instr s.fetched) (effective s.x (effective_instr s.fetched)) (executed-shape s.fetched k.fetched)
few-by_fault (Some i) s r k = omega arith

few-prepared : (s : DecodeContext) (r : Option ℕ) → IsDecodeContext s
    → (prepared_entry s r).reads.len + (prepared_entry s r).reads.len2 + index_side_words (needs s).index_read ≤ 32
unfolding prepared_entry needs resolved
few-prepared s r k = few-by_fault (resolved s).fault s r k

-- an entry of a state reads at most 36 words
pub few-plan : (s : Machine) (t : Option ℕ) → IsMachine s → IfSome t (λ i. i < 64)
    → length (instruction_words (reading_at_place (index_words s) (word s 3) s.enabled (place_of s t)) (word s))
    + index_side_words (needs (decode_context s (place_of s t))).index_read + ((plan s t).reads.len + (plan s t).reads.len2) ≤ 36
unfolding plan
few-plan s t m some =
    let p = place_of s t in
    let v = decode_context s p in
    omega (
      arith,
      few-prepared v (side_word t s (needs v).index_read) (decode_context-fits s t m some),
      (reading-few (index_words s) (word s 3) s.enabled p (word s)).few,
    )
