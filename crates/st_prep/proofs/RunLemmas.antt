-- The words that an entry reads and writes: their number, their places, and which may be accessed.
use Rattle.st_prep.proofs.Common.{◌≡◌, ℕ, zero, suc, ◌+◌, ◌/◌, ◌%◌, ◌^◌, ◌<◌, ◌≤◌, Bool, true, false, not, ◌==◌, ◌&&◌, if◌then◌else◌, None, arith, nat_lt, nat_le, ltb-false, leb-false, nat_tests, words_of_storage, Variable, Connective, Instr, Half, Branch, Floating, Vfl, Connect, Move, BitBranch, IndBranch, StoreCounter, Transfer, Invalid, writes_field, is_invalid_word, address_invalid, forbidden_by, Access, Read, Write, Fetch, Words, no_words, one_run, two_runs, field_words, operand_words, words_moved_from, words_moved_to, is_index_store, reads_field, reads, words_written, has_register, forbidden_run, forbidden_words, area_access, forbidden_area, HasFields, IsRuns, AreInside, AreAbove, HasRoomInStorage, or-left, or-right}
use Rattle.st_prep.proofs.Choices.{of_choice, none-left, none-right, test-none, none-else}

-- ---- runs

pub is_runs-none : IsRuns no_words
is_runs-none = record { start = omega arith; few = omega arith; start2 = omega arith; few2 = omega arith }

is_runs-one : (w n : ℕ) → w < 2 ^ 18 → n ≤ 16 → IsRuns (one_run w n)
is_runs-one w n near few = record { start = near; few = few; start2 = omega arith; few2 = omega arith }

is_runs-two : (w v n : ℕ) → w < 2 ^ 18 → v < 2 ^ 18 → n ≤ 16 → IsRuns (two_runs w v n)
is_runs-two w v n near there few = record { start = near; few = few; start2 = there; few2 = few }

word-near : (e : ℕ) → e < 2 ^ 24 → e / 64 < 2 ^ 18
word-near e h = omega arith

second-near : (h : ℕ) → h < 2 ^ 19 → h / 2 < 2 ^ 18
second-near h fits = omega arith

is_runs-field : (e n : ℕ) → e < 2 ^ 24 → IsRuns (field_words e n)
unfolding field_words
is_runs-field e n h =
    is_runs-one (e / 64) (if nat_le (e % 64 + n) 64 then 1 else 2) (word-near e h)
    (of_choice (λ m. m ≤ 16) (nat_le (e % 64 + n) 64) 1 2 (omega arith) (omega arith))

is_runs-operand : (p e n : ℕ) → e < 2 ^ 24 → IsRuns (operand_words p e n)
is_runs-operand p e n h = of_choice IsRuns (p == 1) no_words (field_words e n) is_runs-none (is_runs-field e n h)

is_runs-read : (swap : Bool) (w v n : ℕ) → w < 2 ^ 18 → v < 2 ^ 18 → n ≤ 16 → IsRuns (words_moved_from swap w v n)
is_runs-read false w v n near there few = is_runs-one w n near few
is_runs-read true w v n near there few = is_runs-two w v n near there few

is_runs-written : (swap : Bool) (w v n : ℕ) → w < 2 ^ 18 → v < 2 ^ 18 → n ≤ 16 → IsRuns (words_moved_to swap w v n)
is_runs-written false w v n near there few = is_runs-one v n there few
is_runs-written true w v n near there few = is_runs-two w v n near there few

one_word : (e : ℕ) → e < 2 ^ 24 → IsRuns (one_run (e / 64) 1)
one_word e h = is_runs-one (e / 64) 1 (word-near e h) (omega arith)

pub is_runs-reads : (instr : Instr) (e : ℕ) → HasFields instr → e < 2 ^ 24 → IsRuns (reads instr e)
unfolding reads
is_runs-reads (Vfl op d u n p l b o a i) e s h =
    of_choice IsRuns (reads_field op) (operand_words p e l) no_words (is_runs-operand p e l h) is_runs-none
is_runs-reads (Connect k t p l b o a i) e s h = is_runs-operand p e l h
is_runs-reads (Move swap a i second n) e s h =
    is_runs-read swap (e / 64) (second / 2) n (word-near e h) (second-near second s.1) s.3
is_runs-reads (BitBranch sense c a i second) e s h = one_word e h
is_runs-reads (Half op a j i) e s h = is_runs-none
is_runs-reads (Branch op a i) e s h = is_runs-none
is_runs-reads (Floating n a i) e s h = is_runs-none
is_runs-reads (IndBranch sense off a i second) e s h = is_runs-none
is_runs-reads (StoreCounter a i second) e s h = is_runs-none
is_runs-reads (Transfer w a i n) e s h = is_runs-none
is_runs-reads (Invalid first second full) e s h = is_runs-none

pub is_runs-writes : (instr : Instr) (e : ℕ) → HasFields instr → e < 2 ^ 24 → IsRuns (words_written instr e)
unfolding words_written
is_runs-writes (Half op a j i) e s h =
    of_choice IsRuns (is_index_store op) (one_run (e / 64) 1) no_words (one_word e h) is_runs-none
is_runs-writes (Vfl op d u n p l b o a i) e s h =
    of_choice IsRuns (writes_field (Variable op)) (field_words e l) no_words (is_runs-field e l h) is_runs-none
is_runs-writes (Connect k t p l b o a i) e s h =
    of_choice IsRuns (writes_field (Connective k)) (field_words e l) no_words (is_runs-field e l h) is_runs-none
is_runs-writes (Move swap a i second n) e s h =
    is_runs-written swap (e / 64) (second / 2) n (word-near e h) (second-near second s.1) s.3
is_runs-writes (BitBranch sense c a i second) e s h =
    of_choice IsRuns (c == 0) no_words (one_run (e / 64) 1) is_runs-none (one_word e h)
is_runs-writes (StoreCounter a i second) e s h = one_word e h
is_runs-writes (Branch op a i) e s h = is_runs-none
is_runs-writes (Floating n a i) e s h = is_runs-none
is_runs-writes (IndBranch sense off a i second) e s h = is_runs-none
is_runs-writes (Transfer w a i n) e s h = is_runs-none
is_runs-writes (Invalid first second full) e s h = is_runs-none

-- ---- words that may be accessed

is_invalid-below : (a : Access) (w : ℕ) → is_invalid_word a w ≡ false → w < words_of_storage
is_invalid-below Read w h = leb-false words_of_storage w h
is_invalid-below Write w h = leb-false words_of_storage w h
is_invalid-below Fetch w h = leb-false words_of_storage w (or-left _ _ h)

-- a word whose access is not forbidden is in storage
pub allowed-inside : (b : ℕ) (en : Bool) (a : Access) (w : ℕ) → forbidden_by b en a w ≡ None → w < words_of_storage
unfolding forbidden_by
allowed-inside b en a w h = is_invalid-below a w (test-none (is_invalid_word a w) address_invalid _ h)

run-inside : (b : ℕ) (en : Bool) (a : Access) (w n : ℕ) → forbidden_run b en a w n ≡ None → 1 ≤ n
    → w + n ≤ words_of_storage
unfolding forbidden_run
run-inside b en a w zero h some = absurd (omega arith)
run-inside b en a w (suc zero) h some =
    let here : w < words_of_storage = allowed-inside b en a w (none-left _ _ h) in omega arith
run-inside b en a w (suc (suc n)) h some =
    let rest : w + 1 + suc n ≤ words_of_storage =
    run-inside b en a (w + 1) (suc n) (none-right (forbidden_by b en a w) _ h) (omega arith) in
    omega arith

pub words-inside : (b : ℕ) (en : Bool) (a : Access) (w : Words) → forbidden_words b en a w ≡ None → AreInside w
unfolding forbidden_words
words-inside b en a w h = record {
  inside = run-inside b en a w.first w.len (none-left _ _ h);
  inside2 = run-inside b en a w.first2 w.len2 (none-right (forbidden_run b en a w.first w.len) _ h);
}

pub none-inside : AreInside no_words
none-inside = record { inside = λ h. absurd (omega arith); inside2 = λ h. absurd (omega arith) }

-- an order whose area may be accessed has its area in storage
pub area-inside : (b : ℕ) (en : Bool) (instr : Instr) (e : ℕ) → forbidden_area b en instr e ≡ None → HasRoomInStorage instr e
unfolding forbidden_area
area-inside b en (Transfer write a i n) e h = (
  ltb-false (e / 64) 32 (test-none (nat_lt (e / 64) 32) address_invalid _ h),
  run-inside b en (area_access write) (e / 64) 8 (none-else (nat_lt (e / 64) 32) address_invalid _ h) (omega arith),
)
area-inside b en (Half op a j i) e h = tt
area-inside b en (Branch op a i) e h = tt
area-inside b en (Floating n a i) e h = tt
area-inside b en (Vfl op d u n p l by o a i) e h = tt
area-inside b en (Connect k t p l by o a i) e h = tt
area-inside b en (Move s a i second n) e h = tt
area-inside b en (BitBranch s c a i second) e h = tt
area-inside b en (IndBranch s off a i second) e h = tt
area-inside b en (StoreCounter a i second) e h = tt
area-inside b en (Invalid first second full) e h = tt

-- ---- registers

above-run : (w n : ℕ) → (not (n == 0) && nat_lt w 32) ≡ false → 1 ≤ n → 32 ≤ w
above-run w n h some = grind (arith, nat_tests)

pub words-above : (w : Words) → has_register w ≡ false → AreAbove w
unfolding has_register
words-above w h = record {
  above = above-run w.first w.len (or-left _ _ h);
  above2 = above-run w.first2 w.len2 (or-right (not (w.len == 0) && nat_lt w.first 32) _ h);
}

pub none-above : AreAbove no_words
none-above = record { above = λ h. absurd (omega arith); above2 = λ h. absurd (omega arith) }
