-- The entries that write any word, and the latest writer of a word.
use Rattle.st_rows.proofs.Common.{Bool, ◌&&◌, ◌||◌, nat_le, nat_lt, if◌then◌else◌, bit_at, bit_not, trailing_zeros, w64, take, All, ◌≡◌, ◌+◌, ◌*◌, ◌/◌, ◌%◌, ◌^◌, bit_and, ◌<◌, ◌≤◌, true, false, inl, inr, length, refl, ap, sym, ◌∙◌, arith, cases_eq, lt-ltb, le-ltb, nat_tests, All-head, All-tail, All-cons, All-take, is_in, is_among, no_runs, has_words, writer_bits, latest_done, writer_back, Past}
use Rattle.std.specs.Prelude.{ℕ, zero, suc, List, [], ◌∷◌, get_or}
use Rattle.std.proofs.lemmas.List.Sums.{position_or_len_is}
use Rattle.std.proofs.lemmas.Nat.Bits.{bit_at_lowest, bit_at-suc, bit_at-zero, bit_at-trailing_zeros, bit_at_clear_same, bit_at_clear_other, bit_at_and}
use Rattle.std.proofs.lemmas.Nat.{and_le_l}

-- the entry at a place; past the end, one without words
abbrev pub nth : List Past → ℕ → Past
nth past i = get_or past i (record { c = 0; writes = no_runs })

-- a number with an appended bit
lowest-bit : (m : ℕ) (b : Bool) → (2 * m + (if b then 1 else 0)) % 2 ≡ (if b then 1 else 0)
lowest-bit m true = omega arith
lowest-bit m false = omega arith

bits-above : (m : ℕ) (b : Bool) → (2 * m + (if b then 1 else 0)) / 2 ≡ m
bits-above m true = omega arith
bits-above m false = omega arith

-- each bit says whether its entry writes any word
pub writer-bit : (past : List Past) (i : ℕ) → bit_at (writer_bits past) i ≡ (if has_words (nth past i).writes then 1 else 0)
unfolding writer_bits
writer-bit [] i = bit_at-zero i
writer-bit (entry ∷ past) zero = bit_at_lowest _ ∙ lowest-bit (writer_bits past) (has_words entry.writes)
writer-bit (entry ∷ past) (suc i) =
    bit_at-suc _ i ∙ ap (λ m. bit_at m i) (bits-above (writer_bits past) (has_words entry.writes)) ∙ writer-bit past i

-- empty runs contain no word
none-in : (w a k b l : ℕ) → (nat_lt 0 k || nat_lt 0 l) ≡ false
    → ((nat_le a w && nat_lt w (a + k)) || (nat_le b w && nat_lt w (b + l))) ≡ false
none-in w a k b l none = grind (arith, nat_tests)

-- a test whose bit is 0 fails
no-bit : (b : Bool) (bit : ℕ) → bit ≡ (if b then 1 else 0) → bit ≡ 0 → b ≡ false
no-bit true bit is none = absurd (omega arith)
no-bit false bit is none = refl

-- an entry whose bit is 0 writes no word
pub silent : (past : List Past) (w i : ℕ) → bit_at (writer_bits past) i ≡ 0 → is_among w (nth past i).writes ≡ false
unfolding is_among is_in
silent past w i zero_bit =
    let runs = (nth past i).writes in
    none-in w runs.one.first runs.one.len runs.two.first runs.two.len (no-bit (has_words runs) _ (writer-bit past i) zero_bit)

-- each bit that is 1 belongs to an entry
writer-inside : (past : List Past) (i : ℕ) → bit_at (writer_bits past) i ≡ 1 → i < length past
unfolding writer_bits
writer-inside [] i is = absurd (let none : bit_at 0 i ≡ 0 = bit_at-zero i in omega arith)
writer-inside (entry ∷ past) zero is = omega arith
writer-inside (entry ∷ past) (suc i) is =
    let inside = writer-inside past i (sym (ap (λ m. bit_at m i) (bits-above (writer_bits past) (has_words entry.writes))) ∙ (sym (bit_at-suc _ i) ∙ is)) in
    omega arith

-- a bit that is 1 belongs to an entry that writes a word
has-bit : (b : Bool) (bit : ℕ) → bit ≡ (if b then 1 else 0) → bit ≡ 1 → b ≡ true
has-bit true bit is one = refl
has-bit false bit is one = absurd (omega arith)

writer-some : (past : List Past) (i : ℕ) → bit_at (writer_bits past) i ≡ 1 → has_words (nth past i).writes ≡ true
writer-some past i is = has-bit (has_words (nth past i).writes) _ (writer-bit past i) is

-- each remaining bit belongs to an entry that writes a word, and each entry that writes the word
-- has one
pub record IsLeft (past : List Past) (w left : ℕ) : Type 0 where
  pub inside : (i : ℕ) → bit_at left i ≡ 1 → i < length past
  pub some : (i : ℕ) → bit_at left i ≡ 1 → has_words (nth past i).writes ≡ true
  pub others : (i : ℕ) → i < length past → bit_at left i ≡ 0 → is_among w (nth past i).writes ≡ false

pub all-left : (past : List Past) (w : ℕ) → IsLeft past w (writer_bits past)
all-left past w = record { inside = writer-inside past; some = writer-some past; others = λ i inside. silent past w i }

-- no entry writes the word
latest-none : (past : List Past) (w : ℕ) → ((i : ℕ) → i < length past → is_among w (nth past i).writes ≡ false) → latest_done past w ≡ 0
unfolding latest_done
latest-none [] w none = refl
latest-none (entry ∷ past) w none = rw (none 0 (omega arith)) (latest-none past w (λ i inside. none (suc i) (omega arith)))

pub latest-unwritten : (past : List Past) (w : ℕ) → All (λ (entry : Past). is_among w entry.writes ≡ false) past → 0 ≡ latest_done past w
unfolding latest_done
latest-unwritten [] w none = refl
latest-unwritten (entry ∷ past) w none =
    rw (All-head (λ (e : Past). is_among w e.writes ≡ false) entry past none)
    (latest-unwritten past w (All-tail (λ (e : Past). is_among w e.writes ≡ false) entry past none))

-- empty runs contain no word of an entry
pub silent-runs : (w : ℕ) (e : Past) → e.writes.one.len ≡ 0 → e.writes.two.len ≡ 0 → is_among w e.writes ≡ false
unfolding is_among is_in
silent-runs w e one two = none-in w e.writes.one.first e.writes.one.len e.writes.two.first e.writes.two.len (rw (one, two) refl)

-- a word that no entry writes, after one more entry
pub unwritten-put : (w : ℕ) (newest : Past) (past : List Past) → is_in w newest.writes.one ≡ false → is_in w newest.writes.two ≡ false
    → All (λ (entry : Past). is_among w entry.writes ≡ false) past → All (λ (entry : Past). is_among w entry.writes ≡ false) (newest ∷ take 7 past)
unfolding is_among
unwritten-put w newest past one two each =
    All-cons (λ (e : Past). is_among w e.writes ≡ false) newest (take 7 past) (rw (one, two) refl)
    (All-take (λ (e : Past). is_among w e.writes ≡ false) 7 past each)

-- an entry writes the word, and no newer one does
latest-here : (past : List Past) (w i : ℕ) → true ≡ is_among w (nth past i).writes
    → ((j : ℕ) → j < i → is_among w (nth past j).writes ≡ false) → (nth past i).c ≡ latest_done past w
unfolding latest_done
latest-here [] w i here none = refl
latest-here (entry ∷ past) w zero here none = rw (← here) refl
latest-here (entry ∷ past) w (suc i) here none = rw (none 0 (omega arith)) (latest-here past w i here (λ j less. none (suc j) (omega arith)))

-- the distance of that entry
back-here : (past : List Past) (w i : ℕ) → i < length past → true ≡ is_among w (nth past i).writes
    → ((j : ℕ) → j < i → is_among w (nth past j).writes ≡ false) → i + 1 ≡ writer_back past w
back-here past w i inside here none =
    let at = position_or_len_is (λ (e : Past). is_among w e.writes) past i (record { c = 0; writes = no_runs }) (omega arith) none (λ less. sym here) in
    rw (at, lt-ltb i (length past) inside) refl

back-none : (past : List Past) (w : ℕ) → ((i : ℕ) → i < length past → is_among w (nth past i).writes ≡ false) → 0 ≡ writer_back past w
back-none past w none =
    let at = position_or_len_is (λ (e : Past). is_among w e.writes) past (length past) (record { c = 0; writes = no_runs }) (omega arith) none (λ less. absurd (omega (arith, less))) in
    rw (at, le-ltb (length past) (length past) (omega arith)) refl

-- no bit remains
pub none-back : (past : List Past) (w left : ℕ) → left ≡ 0 → IsLeft past w left → 0 ≡ writer_back past w
none-back past w left none is =
    back-none past w (λ i inside. is.others i inside (ap (λ m. bit_at m i) none ∙ bit_at-zero i))

pub none-left : (past : List Past) (w left : ℕ) → left ≡ 0 → IsLeft past w left → 0 ≡ latest_done past w
none-left past w left none is =
    sym (latest-none past w (λ i inside. is.others i inside (ap (λ m. bit_at m i) none ∙ bit_at-zero i)))

-- a number is smaller if it lacks a bit
less-by : (a b i : ℕ) → a ≤ b → bit_at a i ≡ 0 → bit_at b i ≡ 1 → a < b
less-by a b i least none one = grind (arith)

module _ (past : List Past) (w left : ℕ) (some : 0 < left) (fits : left < 2 ^ 64) (is : IsLeft past w left) where
  pub newest-inside : trailing_zeros w64 left < length past
  newest-inside = is.inside _ (bit_at-trailing_zeros w64 left some fits).1

  pub newest-some : has_words (nth past (trailing_zeros w64 left)).writes ≡ true
  newest-some = is.some _ (bit_at-trailing_zeros w64 left some fits).1

  pub newest-writes : true ≡ is_among w (nth past (trailing_zeros w64 left)).writes → (nth past (trailing_zeros w64 left)).c ≡ latest_done past w
  newest-writes here =
      latest-here past w _ here (λ j less. is.others j (omega (arith, newest-inside)) ((bit_at-trailing_zeros w64 left some fits).2 j less))

  pub newest-back : true ≡ is_among w (nth past (trailing_zeros w64 left)).writes → trailing_zeros w64 left + 1 ≡ writer_back past w
  newest-back here =
      back-here past w _ newest-inside here (λ j less. is.others j (omega (arith, newest-inside)) ((bit_at-trailing_zeros w64 left some fits).2 j less))

  pub fewer-left : bit_and left (bit_not w64 (1 * 2 ^ trailing_zeros w64 left % 2 ^ 64)) < left
  fewer-left =
      let lowest = bit_at-trailing_zeros w64 left some fits in
      less-by _ left (trailing_zeros w64 left) (and_le_l left _) (bit_at_clear_same w64 left (trailing_zeros w64 left) lowest.0) lowest.1

  pub next-left : length past ≤ 64 → false ≡ is_among w (nth past (trailing_zeros w64 left)).writes
      → IsLeft past w (bit_and left (bit_not w64 (1 * 2 ^ trailing_zeros w64 left % 2 ^ 64)))
  next-left few writes =
      let at = trailing_zeros w64 left in
      let lowest = bit_at-trailing_zeros w64 left some fits in
      record {
        inside = λ i one. is.inside i (omega (arith, bit_at_and left (bit_not w64 (1 * 2 ^ at % 2 ^ 64)) i));
        some = λ i one. is.some i (omega (arith, bit_at_and left (bit_not w64 (1 * 2 ^ at % 2 ^ 64)) i));
        others = λ i inside none. elim (cases_eq i at) [
          | inl same ↦ rw same (sym writes)
          | inr other ↦ is.others i inside (sym (bit_at_clear_other w64 left at lowest.0 i (omega arith) other) ∙ none)
        ];
      }
