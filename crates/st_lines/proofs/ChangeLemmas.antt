-- Lemmas on words that changed and words that did not.
use Rattle.st_lines.proofs.Common.{Bool, if◌then◌else◌, nat_eq, slice_index, slice_set, Result, Ok, Err, IsErr, ◌≡◌, ◌≢◌, ℕ, zero, suc, ◌+◌, ◌-◌, ◌<◌, ◌≤◌, inl, inr, true, false, List, [], ◌++◌, length, length-set, length-append, get_or-set_other, refl, sym, ◌∙◌, ap, subst, arith, leb_tells, eqb_tells, nat_tests, get_or-set_same, ext_get_or, length-take-le, get_or_append_left, get_or-take, get_or-append-add, get_or-drop, length-drop, words_of_storage, words_of_storage_is, WORDS, OutputState, Failed, WritesLines, lines_for, LinesSoFar, lines_none, lines_more, lines_failed, lines_for_next, lines_for_whole, Machine, word, word_change_lines, IsUntouched, AreOthersAlike}
use Rattle.std.specs.Prelude.{take, drop}
use Rattle.std.proofs.Math.Seq.{take-append_seam}
use Rattle.st_lines.specs.declared.changes.Changeable.{Changeable}

-- ---- lines of numbers that have none are passed over

pass : (f : ℕ → List (List ℕ)) (d n k i c : ℕ) → k ≡ d + n → c ≡ i + d → ((v : ℕ) → i ≤ v → v < c → f v ≡ []) → lines_for f k i ≡ lines_for f n c
unfolding lines_for
pass f zero n k i c all there none =
    let few : k ≡ n = omega (arith, all) in
    let here : i ≡ c = omega (arith, there) in
    ap (λ j. lines_for f j i) few ∙ ap (λ w. lines_for f n w) here
pass f (suc d) n zero i c all there none = let no : ⊥ = omega (arith, all) in absurd no
pass f (suc d) n (suc k) i c all there none =
    ap (λ xs. xs ++ lines_for f k (i + 1)) (none i (omega arith) (omega (arith, there)))
    ∙ pass f d n k (i + 1) c (omega (arith, all)) (omega (arith, there)) (λ v low below. none v (omega (arith, low)) below)

passed : (f : ℕ → List (List ℕ)) (n i c : ℕ) → i ≤ c → c ≤ n → ((v : ℕ) → i ≤ v → v < c → f v ≡ []) → lines_for f (n - i) i ≡ lines_for f (n - c) c
passed f n i c low high none = pass f (c - i) (n - c) (n - i) i c (omega (arith, low, high)) (omega (arith, low)) none

-- ---- one word

none-change : (old : List ℕ) (m : Machine) (w : ℕ) → slice_index old w ≡ word m w → word_change_lines old m w ≡ []
unfolding word_change_lines
none-change old m w same = rw same (alike (word m w) _)
  where
    alike : (n : ℕ) (xs : List (List ℕ)) → (if nat_eq n n then [] else xs) ≡ []
    alike n xs = let yes : nat_eq n n ≡ true = grind (arith, nat_tests) in rw yes refl

same-change : (old now : List ℕ) (m : Machine) (w : ℕ) → slice_index now w ≡ slice_index old w → word_change_lines now m w ≡ word_change_lines old m w
unfolding word_change_lines
same-change old now m w same = rw same refl

-- ---- some words

-- the words from w on and below c did not change; c is at most the address of the first word after
-- the registers
pub record AreSame (old : List ℕ) (m : Machine) (w c : ℕ) : Type 0 where
  pub least : w ≤ c
  pub most : c ≤ 32
  pub between : (v : ℕ) → w ≤ v → v < c → slice_index old v ≡ word m v

pub same-starts : (old : List ℕ) (m : Machine) (w : ℕ) → w ≤ 32 → AreSame old m w w
same-starts old m w few = record { least = omega arith; most = few; between = λ v low below. absurd (omega (arith, low, below)) }

-- ---- all of them

-- the words below w are those of the machine, and the others are as they were
pub record IsCopying (old now : List ℕ) (m : Machine) (w : ℕ) : Type 0 where
  pub most : w ≤ WORDS
  pub size : length now ≡ words_of_storage
  pub kept : (v : ℕ) → v < w → slice_index now v ≡ word m v
  pub left : (v : ℕ) → w ≤ v → slice_index now v ≡ slice_index old v

pub copy-starts : (old : List ℕ) (m : Machine) → length old ≡ words_of_storage → IsCopying old old m 0
copy-starts old m size = record {
  most = omega arith;
  size = size;
  kept = λ v below. absurd (omega arith);
  left = λ v from. refl;
}

-- the first words of a list are overwritten
pub front-kept : (n : ℕ) (new from words to items : List ℕ) → new ≡ take 32 from ++ drop 32 to → from ≡ words → to ≡ items → 32 ≤ length words
    → 32 ≤ length items → length items ≡ n → take n (new ++ drop (length new) items) ≡ take 32 words ++ drop 32 items
front-kept n new from words to items is from_is to_is long some size =
    let all : new ≡ take 32 words ++ drop 32 items = is ∙ ap (λ xs. take 32 xs ++ drop 32 to) from_is ∙ ap (λ xs. take 32 words ++ drop 32 xs) to_is in
    let front = length-take-le 32 words long in
    let same : n ≡ length new = omega (arith, ap length all, length-append (take 32 words) (drop 32 items), length-drop 32 items, front, size, some) in
    ap (λ k. take k (new ++ drop (length new) items)) same ∙ take-append_seam new (drop (length new) items) ∙ all

-- the registers are copied
module _ (old now : List ℕ) (m : Machine) (size : length old ≡ words_of_storage) (own : length m.words ≡ words_of_storage)
    (is : now ≡ take 32 m.words ++ drop 32 old) where
  front : length (take 32 m.words) ≡ 32
  front = length-take-le 32 m.words (omega (arith, own, words_of_storage_is))

  low : (v : ℕ) → v < 32 → slice_index now v ≡ word m v
  low v below =
      ap (λ xs. slice_index xs v) is
      ∙ get_or_append_left (take 32 m.words) (drop 32 old) 0 v (omega (arith, below, front))
      ∙ get_or-take 32 m.words v 0 below

  high : (v : ℕ) → 32 ≤ v → slice_index now v ≡ slice_index old v
  high v from =
      let at : v ≡ length (take 32 m.words) + (v - 32) = omega (arith, from, front) in
      let back : 32 + (v - 32) ≡ v = omega (arith, from) in
      ap (λ xs. slice_index xs v) is
      ∙ ap (λ k. slice_index (take 32 m.words ++ drop 32 old) k) at
      ∙ get_or-append-add (take 32 m.words) (drop 32 old) (v - 32) 0
      ∙ get_or-drop 32 old (v - 32) 0
      ∙ ap (λ k. slice_index old k) back

  pub copy-registers : IsCopying old now m 32
  copy-registers = record {
    most = omega arith;
    size =
        let rest = length-drop 32 old in
        omega (arith, ap length is, length-append (take 32 m.words) (drop 32 old), front, rest, size, words_of_storage_is);
    kept = low;
    left = high;
  }

-- words that did not change are skipped
pub copy-passes : (old now : List ℕ) (m : Machine) (w c : ℕ) → IsCopying old now m w → w ≤ c → c ≤ WORDS
    → ((v : ℕ) → w ≤ v → v < c → slice_index now v ≡ word m v) → IsCopying old now m c
copy-passes old now m w c h from most between = record {
  most = most;
  size = h.size;
  kept = λ v below.
      elim (leb_tells w v) [
        | inl p ↦ between v p.1 below
        | inr p ↦ h.kept v (omega (arith, p.1))
      ];
  left = λ v low. h.left v (omega (arith, low, from));
}

-- one more word is copied
module _ (old now : List ℕ) (m : Machine) (w : ℕ) (h : IsCopying old now m w) (some : w < WORDS) (new : List ℕ) (is : new ≡ slice_set now w (word m w)) where
  inside : w < length now
  inside = omega (arith, h.size, words_of_storage_is)

  other : (v : ℕ) → v ≢ w → slice_index new v ≡ slice_index now v
  other v differs = ap (λ xs. slice_index xs v) is ∙ get_or-set_other now w v (word m w) 0 differs

  at : slice_index new w ≡ word m w
  at = ap (λ xs. slice_index xs w) is ∙ get_or-set_same now w (word m w) 0 inside

  pub copy-made : IsCopying old new m (w + 1)
  copy-made = record {
    most = omega arith;
    size = ap length is ∙ length-set now w (word m w) ∙ h.size;
    kept = λ v below.
        elim (eqb_tells v w) [
          | inl e ↦ subst (λ k. slice_index new k ≡ word m k) (sym e.1) at
          | inr e ↦ other v e.1 ∙ h.kept v (omega (arith, e.1, below))
        ];
    left = λ v low. other v (omega arith) ∙ h.left v (omega arith);
  }

  pub copy-size : length new ≡ words_of_storage
  copy-size = copy-made.size

  pub copy-left : (may : Changeable) → AreOthersAlike may old m
      → (v : ℕ) → w + 1 ≤ v → v < WORDS → IsUntouched v may → slice_index new v ≡ word m v
  copy-left may same v low below left = copy-made.left v low ∙ same v below left

-- all words are copied
pub copy-ends : (old now : List ℕ) (m : Machine) (w : ℕ) → IsCopying old now m w → WORDS ≤ w → length m.words ≡ words_of_storage → now ≡ m.words
copy-ends old now m w h end size = ext_get_or 0 now m.words (h.size ∙ sym size) (λ v inside. h.kept v (omega (arith, h.size, words_of_storage_is, inside)))

-- Loop invariant: the changes of the words below w are written, and these words are those of the
-- machine.
pub record IsChanging (s t : OutputState) (old now : List ℕ) (m : Machine) (w : ℕ) : Type 0 where
  pub so_far : LinesSoFar s t (lines_for (word_change_lines old m) WORDS 0) (lines_for (word_change_lines old m) (WORDS - w) w)
  pub copied : IsCopying old now m w

pub change-starts : (s : OutputState) (old : List ℕ) (m : Machine) → length old ≡ words_of_storage → IsChanging s s old old m 0
change-starts s old m size = record {
  so_far = lines_none s (lines_for (word_change_lines old m) WORDS 0);
  copied = copy-starts old m size;
}

-- words that did not change are skipped
pub change-passes : (s t : OutputState) (old now : List ℕ) (m : Machine) (w c : ℕ) → IsChanging s t old now m w → w ≤ c → c ≤ WORDS
    → ((v : ℕ) → w ≤ v → v < c → slice_index now v ≡ word m v) → IsChanging s t old now m c
change-passes s t old now m w c h from most between = record {
  so_far = subst (LinesSoFar s t (lines_for (word_change_lines old m) WORDS 0))
      (passed (word_change_lines old m) WORDS w c from most (λ v low below. none-change old m v (sym (h.copied.left v low) ∙ between v low below))) h.so_far;
  copied = copy-passes old now m w c h.copied from most between;
}

module _ (s t : OutputState) (old now : List ℕ) (m : Machine) (w : ℕ) (h : IsChanging s t old now m w) (some : w < WORDS) where
  next : LinesSoFar s t (lines_for (word_change_lines old m) WORDS 0) (word_change_lines old m w ++ lines_for (word_change_lines old m) (WORDS - (w + 1)) (w + 1))
  next = lines_for_next s t (lines_for (word_change_lines old m) WORDS 0) (word_change_lines old m) WORDS w some h.so_far

  here : word_change_lines now m w ≡ word_change_lines old m w
  here = same-change old now m w (h.copied.left w (omega arith))

  pub change-fails : (u : OutputState) (e : Failed) (r : Result (Unit {0}) Failed) → IsErr r → WritesLines t u (word_change_lines now m w) (Err e)
      → WritesLines s u (lines_for (word_change_lines old m) WORDS 0) r
  change-fails u e r f wrote =
      let failed = subst (λ ls. WritesLines t u ls (Err e)) here wrote in
      lines_failed s t u (lines_for (word_change_lines old m) WORDS 0) (word_change_lines old m w) (lines_for (word_change_lines old m) (WORDS - (w + 1)) (w + 1)) r f
      next failed.err

  module _ (u : OutputState) (new : List ℕ) (x : Unit {0}) (wrote : WritesLines t u (word_change_lines now m w) (Ok x)) (is : new ≡ slice_set now w (word m w)) where
    made : LinesSoFar s u (lines_for (word_change_lines old m) WORDS 0) (lines_for (word_change_lines old m) (WORDS - (w + 1)) (w + 1))
    made =
        let done = subst (λ ls. WritesLines t u ls (Ok x)) here wrote in
        lines_more s t u (lines_for (word_change_lines old m) WORDS 0) (word_change_lines old m w) (lines_for (word_change_lines old m) (WORDS - (w + 1)) (w + 1)) next done.ok

    -- the invariant after one more word
    pub change-made : IsChanging s u old new m (w + 1)
    change-made = record { so_far = made; copied = copy-made old now m w h.copied some new is }

    pub change-size : length new ≡ words_of_storage
    change-size = copy-size old now m w h.copied some new is

    pub change-left : (may : Changeable) → AreOthersAlike may old m
        → (v : ℕ) → w + 1 ≤ v → v < WORDS → IsUntouched v may → slice_index new v ≡ word m v
    change-left = copy-left old now m w h.copied some new is

-- the invariant at the end
module _ (s t : OutputState) (old now : List ℕ) (m : Machine) (w : ℕ) (h : IsChanging s t old now m w) (end : WORDS ≤ w) where
  pub change-ends : (x : Unit {0}) → WritesLines s t (lines_for (word_change_lines old m) WORDS 0) (Ok x)
  change-ends x = record {
    ok = lines_for_whole s t (lines_for (word_change_lines old m) WORDS 0) (word_change_lines old m) WORDS w end h.so_far;
    err = tt;
  }

  pub words-kept : length m.words ≡ words_of_storage → now ≡ m.words
  words-kept = copy-ends old now m w h.copied end

-- ---- one of two

pub first_of : (s u : OutputState) (b : Bool) (xs ys : List (List ℕ)) (r : Result (Unit {0}) Failed) → b ≡ true → WritesLines s u xs r
    → WritesLines s u (if b then xs else ys) r
first_of s u b xs ys r on h = rw on h

pub second_of : (s u : OutputState) (b : Bool) (xs ys : List (List ℕ)) (r : Result (Unit {0}) Failed) → b ≡ false → WritesLines s u ys r
    → WritesLines s u (if b then xs else ys) r
second_of s u b xs ys r off h = rw off h

pub not-zero : (k : ℕ) → nat_eq k 0 ≡ false → k ≢ 0
not-zero k off none = let no : true ≡ false = sym (ap (λ n. nat_eq n 0) none) ∙ off in absurd (cc)
