-- The storage that an effect needs lies within the words of the instruction.
use Rattle.st_exec.proofs.Common.{◌≡◌, ◌≢◌, ℕ, ◌+◌, ◌*◌, ◌/◌, ◌%◌, ◌^◌, ◌<◌, ◌≤◌, Bool, true, false, ◌==◌, if◌then◌else◌, refl, sym, ap, subst, arith, nat_le, leb-true, leb-false, eqb-true, words_of_storage, HalfOp, Half, Move, BitBranch, StoreCounter, Machine, Words, no_words, one_run, field_words, operand_words, is_index_store, reads, words_written, AreInside, AreRead, IsField, AreRuns}
use Rattle.std.specs.Prelude.{List}

-- words that are chosen by a test, when the test holds
inside_if : (b : Bool) (w : Words) → AreInside (if b then w else no_words) → b ≡ true → AreInside w
inside_if true w h t = h
inside_if false w h t = absurd (cc)

-- ---- fields

field_near : (e n : ℕ) (b : Bool) → nat_le (e % 64 + n) 64 ≡ b → n ≤ 64
    → e / 64 + (if b then 1 else 2) ≤ words_of_storage → e + n ≤ 64 * words_of_storage
field_near e n true t few h = let le : e % 64 + n ≤ 64 = leb-true (e % 64 + n) 64 t in omega arith
field_near e n false t few h = omega arith

pub some_words : (b : Bool) → 1 ≤ (if b then 1 else 2)
some_words true = omega arith
some_words false = omega arith

pub inside-field : (e n : ℕ) → n ≤ 64 → AreInside (field_words e n) → e + n ≤ 64 * words_of_storage
unfolding field_words
inside-field e n few h =
    field_near e n (nat_le (e % 64 + n) 64) refl few (h.inside (some_words (nat_le (e % 64 + n) 64)))

pub inside-field_if : (b : Bool) (e n : ℕ) → n ≤ 64 → AreInside (if b then field_words e n else no_words) → b ≡ true
    → e + n ≤ 64 * words_of_storage
inside-field_if b e n few h t = inside-field e n few (inside_if b (field_words e n) h t)

pub inside-operand : (p e n : ℕ) → p ≢ 1 → n ≤ 64 → AreInside (operand_words p e n) → e + n ≤ 64 * words_of_storage
inside-operand p e n other few h =
    elim (p == 1) as (λ b. (p == 1) ≡ b → AreInside (if b then no_words else field_words e n) → e + n ≤ 64 * words_of_storage) [
      | true ↦ λ t _. absurd (other (eqb-true p 1 t))
      | false ↦ λ _ inside. inside-field e n few inside
    ]
    refl h

-- ---- other words

pub inside-index : (op : HalfOp) (a j i e : ℕ) → AreInside (words_written (Half op a j i) e) → is_index_store op ≡ true
    → e / 64 < words_of_storage
unfolding words_written
inside-index op a j i e h t =
    let w : e / 64 + 1 ≤ words_of_storage = (inside_if (is_index_store op) (one_run (e / 64) 1) h t).inside (omega arith) in
    omega arith

pub inside-move : (swap : Bool) (a i second n e : ℕ) → 1 ≤ n → AreInside (reads (Move swap a i second n) e)
    → AreInside (words_written (Move swap a i second n) e) → AreRuns (e / 64) (second / 2) n
unfolding reads words_written
inside-move false a i second n e some h k = record { from_inside = h.inside some; to_inside = k.inside some }
inside-move true a i second n e some h k = record { from_inside = h.inside some; to_inside = h.inside2 some }

pub inside-bit : (sense : Bool) (change a i second e : ℕ) → AreInside (reads (BitBranch sense change a i second) e)
    → e + 1 ≤ 64 * words_of_storage
unfolding reads
inside-bit sense change a i second e h =
    let w : e / 64 + 1 ≤ words_of_storage = h.inside (omega arith) in omega arith

pub inside-counter : (a i second e v : ℕ) → AreInside (words_written (StoreCounter a i second) e) → v < 2 ^ 19
    → IsField (32 * (e / 32)) 19 v
unfolding words_written
inside-counter a i second e v h fits =
    let w : e / 64 + 1 ≤ words_of_storage = h.inside (omega arith) in
    record { some = omega arith; few = omega arith; inside = omega arith; fits = fits }

-- a bit lies in one word
one_of_two : (b : Bool) (m : ℕ) → nat_le m 64 ≡ b → m ≤ 64 → ◌≡◌ {A = ℕ} (if b then 1 else 2) 1
one_of_two true m t le = refl
one_of_two false m t le = absurd (omega (arith, leb-false m 64 t))

field_words-bit : (e : ℕ) → one_run (e / 64) 1 ≡ field_words e 1
unfolding field_words
field_words-bit e =
    ap (λ n. one_run (e / 64) n) (sym (one_of_two (nat_le (e % 64 + 1) 64) (e % 64 + 1) refl (omega arith)))

pub read-bit : (sense : Bool) (change a i second e : ℕ) (operands : List ℕ) (t : Machine)
    → AreRead (reads (BitBranch sense change a i second) e) operands t → AreRead (field_words e 1) operands t
unfolding reads
read-bit sense change a i second e operands t h = subst (λ w. AreRead w operands t) (field_words-bit e) h
