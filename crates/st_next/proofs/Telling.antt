-- An observer is notified of the words of the entry that is prepared next, in order.
use Rattle.st_next.proofs.Common.{◌≡◌, ℕ, zero, suc, ◌+◌, ◌≤◌, max, Bool, true, false, List, [], ◌∷◌, ◌++◌, map, append_assoc, refl, sym, subst, ◌∙◌, ap, arith, add-zero, zero-add, suc-add, append-nil, map-append, is_none, is_some, wanted_from, words_tick, tick_a, index_uses, told, use_told, use_of, uses, behind, wishes, unused, wish_of, fetch_word, fetch_words, WordRun, Fetching, IssueState, Past, Use, Machine, Fetched, prepared_as, run_with_word, words_so_far, words_alone, words_told, told_so_far, IsToldFurther, FetchUnit}
use Rattle.std.specs.Prelude.{if◌then◌else◌, ◌==◌}
use Rattle.st_rows.specs.Uses.{Use as WordUse}
use Rattle.st_rows.specs.declared.uses.Role.TheVariants.{Instruction}
use Rattle.st_rows.proofs.Telling.{Joins, Rests}
use Rattle.st_next.proofs.WordByWord.{fetch-none}

-- ---- the words of a run

module _ (ds : List ℕ) (past : List Past) (from : ℕ) where
  -- how the next word is used
  abbrev pub next_use : Fetching → ℕ → WordUse
  next_use s w = use_of ds past s (record { role = Instruction; w = w; from = from })

  -- n words from the word w on
  abbrev run_uses : Fetching → ℕ → ℕ → List WordUse
  run_uses s w n = uses ds past s (wishes Instruction from w n)

  -- some words, and then more
  uses-more : (s : Fetching) (w m k : ℕ) → run_uses s w (m + k) ≡ run_uses s w m ++ run_uses (fetch_words ds past s from w m) (w + m) k
  unfolding fetch_words behind uses wishes fetch_word
  uses-more s w zero k = rw (zero-add k, add-zero w) refl
  uses-more s w (suc m) k =
      let next = fetch_word ds past s w from in
      let later = run_uses (fetch_words ds past next from (w + 1) m) in
      let place : w + 1 + m ≡ w + suc m = omega arith in
      rw (suc-add m k)
      (ap (λ us. next_use s w ∷ us) (uses-more next (w + 1) m k ∙ ap (λ v. run_uses next (w + 1) m ++ later v k) place))

  uses-none : (s : Fetching) (w n : ℕ) → n ≡ 0 → run_uses s w n ≡ []
  unfolding uses wishes
  uses-none s w zero e = refl
  uses-none s w (suc n) e = absurd (omega arith)

  uses-by : (b : Bool) (s : Fetching) (v n w : ℕ) → (n == 0) ≡ b → (1 ≤ n → w ≡ v + n)
      → run_uses s (if b then w else v) (n + 1) ≡ run_uses s v n ++ next_use (fetch_words ds past s from v n) w ∷ []
  unfolding fetch_words behind uses wishes fetch_word
  uses-by true s v n w e place = rw (is_none n e) refl
  uses-by false s v n w e place =
      uses-more s v n 1
      ∙ ap (λ k. run_uses s v n ++ next_use (fetch_words ds past s from v n) k ∷ []) (sym (place (is_some n e)))

  -- one word more after those of a run
  told-word : (s : Fetching) (run : WordRun) (w : ℕ) → (1 ≤ run.len → w ≡ run.first + run.len)
      → told ds past (run_uses s (run_with_word run w).first (run_with_word run w).len)
      ≡ told ds past (run_uses s run.first run.len) ++ told ds past (next_use (fetch_words ds past s from run.first run.len) w ∷ [])
  told-word s run w place =
      ap (map (use_told ds past)) (uses-by (run.len == 0) s run.first run.len w refl place)
      ∙ map-append (use_told ds past) (run_uses s run.first run.len) (next_use (fetch_words ds past s from run.first run.len) w ∷ [])

  told-none : (s : Fetching) (w n : ℕ) → n ≡ 0 → told ds past (run_uses s w n) ≡ []
  told-none s w n e = ap (map (use_told ds past)) (uses-none s w n e)

-- ---- those of an entry

module _ (ds : List ℕ) (f : IssueState) (own target : WordRun) (w : ℕ) where
  abbrev before : Fetching
  before = record { bus = f.bus; answered = 0; awaited = 0 }

  abbrev own_words : Fetching
  own_words = fetch_words ds f.past before (wanted_from f) own.first own.len

  abbrev waits : ℕ
  waits = max (wanted_from f) f.c

  abbrev own_told : WordRun → List Use
  own_told run = told ds f.past (run_uses ds f.past (wanted_from f) before run.first run.len)

  own-words : target.len ≡ 0 → words_so_far ds f own target ≡ own_words
  unfolding words_tick fetch_words
  own-words none = fetch-none ds f.past waits own_words target.first target.len none

  told-own-only : (run : WordRun) → target.len ≡ 0 → words_told ds f run target ≡ own_told run
  unfolding words_told fetch_words
  told-own-only run none =
      let there = fetch_words ds f.past before (wanted_from f) run.first run.len in
      ap (λ us. own_told run ++ us) (told-none ds f.past waits there target.first target.len none)
      ∙ append-nil (own_told run)

  pub own-told : target.len ≡ 0 → (1 ≤ own.len → w ≡ own.first + own.len)
      → words_told ds f (run_with_word own w) target
      ≡ words_told ds f own target ++ told ds f.past (next_use ds f.past (wanted_from f) (words_so_far ds f own target) w ∷ [])
  own-told none place =
      told-own-only (run_with_word own w) none
      ∙ told-word ds f.past (wanted_from f) before own w place
      ∙ ap (λ us. us ++ told ds f.past (next_use ds f.past (wanted_from f) own_words w ∷ [])) (sym (told-own-only own none))
      ∙ ap (λ s. words_told ds f own target ++ told ds f.past (next_use ds f.past (wanted_from f) s w ∷ [])) (sym (own-words none))

  pub target-told : (1 ≤ target.len → w ≡ target.first + target.len)
      → words_told ds f own (run_with_word target w)
      ≡ words_told ds f own target ++ told ds f.past (next_use ds f.past waits (words_so_far ds f own target) w ∷ [])
  unfolding words_told words_tick fetch_words
  target-told place =
      ap (λ us. own_told own ++ us) (told-word ds f.past waits own_words target w place)
      ∙ sym (append_assoc (own_told own) (told ds f.past (run_uses ds f.past waits own_words target.first target.len)) _)

-- ---- all words that the observer knows so far

pub told-fetches : (ds : List ℕ) (f : IssueState) (next : FetchUnit) → next.planned ≡ false → told_so_far ds f next ≡ words_told ds f next.entry.own next.entry.target
told-fetches ds f next un =
    let words = words_told ds f next.entry.own next.entry.target in
    let bus = (words_tick ds f (words_alone next.entry.own next.entry.target)).bus in
    ap (λ b. words ++ (if b then told ds f.past (uses ds f.past (unused bus 0) (wish_of next.entry.side next.formed.a)) else [])) un
    ∙ append-nil words

pub told-planned : (ds : List ℕ) (f : IssueState) (next : FetchUnit) → next.planned ≡ true → next.formed.a ≡ tick_a ds f next.entry
    → told_so_far ds f next ≡ words_told ds f next.entry.own next.entry.target ++ told ds f.past (index_uses ds f next.entry)
unfolding words_tick
told-planned ds f next is at =
    let words = words_told ds f next.entry.own next.entry.target in
    let bus = (words_tick ds f next.entry).bus in
    ap (λ b. words ++ (if b then told ds f.past (uses ds f.past (unused bus 0) (wish_of next.entry.side next.formed.a)) else [])) is
    ∙ ap (λ a. words ++ told ds f.past (uses ds f.past (unused bus 0) (wish_of next.entry.side a))) at

-- ---- steps after steps

module _ {A : Type 0} (noted : List Use → A → A) (ds : List ℕ) (f : IssueState) where
  pub told-then : Joins noted → (a b c : FetchUnit) (m n o : A) → IsToldFurther noted ds f a b m n → IsToldFurther noted ds f b c n o
      → IsToldFurther noted ds f a c m o
  told-then more a b c m n o first then_ = record {
    used = first.used ++ then_.used;
    so_far = then_.so_far ∙ ap (λ us. us ++ then_.used) first.so_far ∙ append_assoc (told_so_far ds f a) first.used then_.used;
    told = then_.told ∙ ap (noted then_.used) first.told ∙ more first.used then_.used m;
  }

  pub told-nothing : Rests noted → (a : FetchUnit) (m : A) → IsToldFurther noted ds f a a m m
  told-nothing none a m = record { used = []; so_far = sym (append-nil (told_so_far ds f a)); told = sym (none m) }

  -- what is not planned is prepared so far, and no word is asked for
  pub told-prepared : (a b c : FetchUnit) (m n : A) (fd : Fetched) (x : List ℕ) (s : Machine) → IsToldFurther noted ds f a b m n → b.planned ≡ false
      → c ≡ prepared_as fd x s b → IsToldFurther noted ds f a c m n
  told-prepared a b c m n fd x s is un same = subst (λ (c : FetchUnit). IsToldFurther noted ds f a c m n) (sym same) (record {
    used = is.used;
    so_far = told-fetches ds f (prepared_as fd x s b) un ∙ sym (told-fetches ds f b un) ∙ is.so_far;
    told = is.told;
  })
