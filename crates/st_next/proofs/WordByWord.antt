-- Instruction words are requested in order.
use Rattle.st_next.proofs.Common.{◌≡◌, ℕ, zero, suc, ◌+◌, ◌≤◌, max, Bool, true, false, ◌==◌, if◌then◌else◌, List, [], ◌++◌, append_assoc, refl, sym, ◌∙◌, ap, arith, add-zero, zero-add, suc-add, append-nil, tick_of, is_none, is_some, wanted_from, words_tick, fetch_word, fetch_words, word_asked, words_asked, fetches_asked, Read, WordRun, Past, Fetching, IssueState, run_with_word, words_so_far, asked_so_far, behind, reads_of, uses, wishes}

module _ (ds : List ℕ) (past : List Past) (from : ℕ) where
  -- the request tick of the next word
  abbrev pub want_of : Fetching → ℕ
  want_of s = max (max from s.answered) s.awaited

  -- m words, and then k more
  pub fetch-more : (s : Fetching) (w m k : ℕ)
      → fetch_words ds past s from w (m + k) ≡ fetch_words ds past (fetch_words ds past s from w m) from (w + m) k
  unfolding fetch_words behind uses wishes fetch_word
  fetch-more s w zero k = rw (zero-add k, add-zero w) refl
  fetch-more s w (suc m) k =
      rw (suc-add m k)
      (fetch-more (fetch_word ds past s w from) (w + 1) m k
      ∙ ap (λ v. fetch_words ds past (fetch_words ds past (fetch_word ds past s w from) from (w + 1) m) from v k) (omega arith))

  pub asked-more : (s : Fetching) (w m k : ℕ)
      → words_asked ds past s from w (m + k)
      ≡ words_asked ds past s from w m ++ words_asked ds past (fetch_words ds past s from w m) from (w + m) k
  unfolding fetch_words words_asked behind uses wishes fetch_word reads_of
  asked-more s w zero k = rw (zero-add k, add-zero w) refl
  asked-more s w (suc m) k =
      let first = word_asked (tick_of s.bus.held.words w) w (want_of s) in
      let next = fetch_word ds past s w from in
      let later = words_asked ds past (fetch_words ds past next from (w + 1) m) from in
      let place : w + 1 + m ≡ w + suc m = omega arith in
      rw (suc-add m k)
      (ap (λ reads. first ++ reads) (asked-more next (w + 1) m k ∙ ap (λ v. words_asked ds past next from (w + 1) m ++ later v k) place)
      ∙ sym (append_assoc first (words_asked ds past next from (w + 1) m) (later (w + suc m) k)))

  -- ---- one more word after those of a run

  pub fetch-none : (s : Fetching) (w n : ℕ) → n ≡ 0 → fetch_words ds past s from w n ≡ s
  unfolding fetch_words behind uses wishes fetch_word
  fetch-none s w zero e = refl
  fetch-none s w (suc n) e = absurd (omega arith)

  pub asked-none : (s : Fetching) (w n : ℕ) → n ≡ 0 → words_asked ds past s from w n ≡ []
  unfolding words_asked reads_of uses wishes fetch_word
  asked-none s w zero e = refl
  asked-none s w (suc n) e = absurd (omega arith)

  fetch-by : (b : Bool) (s : Fetching) (v n w : ℕ) → (n == 0) ≡ b → (1 ≤ n → w ≡ v + n)
      → fetch_words ds past s from (if b then w else v) (n + 1)
      ≡ fetch_word ds past (fetch_words ds past s from v n) w from
  unfolding fetch_words behind uses wishes fetch_word
  fetch-by true s v n w e place = rw (is_none n e) refl
  fetch-by false s v n w e place =
      fetch-more s v n 1 ∙ ap (λ k. fetch_word ds past (fetch_words ds past s from v n) k from) (sym (place (is_some n e)))

  pub fetch-word : (s : Fetching) (run : WordRun) (w : ℕ) → (1 ≤ run.len → w ≡ run.first + run.len)
      → fetch_words ds past s from (run_with_word run w).first (run_with_word run w).len
      ≡ fetch_word ds past (fetch_words ds past s from run.first run.len) w from
  fetch-word s run w place = fetch-by (run.len == 0) s run.first run.len w refl place

  -- the read of the next word
  abbrev pub read_of : Fetching → ℕ → List Read
  read_of s w = word_asked (tick_of s.bus.held.words w) w (want_of s)

  asked-by : (b : Bool) (s : Fetching) (v n w : ℕ) → (n == 0) ≡ b → (1 ≤ n → w ≡ v + n)
      → words_asked ds past s from (if b then w else v) (n + 1)
      ≡ words_asked ds past s from v n ++ read_of (fetch_words ds past s from v n) w
  unfolding fetch_words words_asked behind uses wishes fetch_word reads_of
  asked-by true s v n w e place = rw (is_none n e) (append-nil (read_of s w))
  asked-by false s v n w e place =
      asked-more s v n 1
      ∙ ap (λ reads. words_asked ds past s from v n ++ reads) (append-nil (read_of (fetch_words ds past s from v n) (v + n)))
      ∙ ap (λ k. words_asked ds past s from v n ++ read_of (fetch_words ds past s from v n) k) (sym (place (is_some n e)))

  pub asked-word : (s : Fetching) (run : WordRun) (w : ℕ) → (1 ≤ run.len → w ≡ run.first + run.len)
      → words_asked ds past s from (run_with_word run w).first (run_with_word run w).len
      ≡ words_asked ds past s from run.first run.len ++ read_of (fetch_words ds past s from run.first run.len) w
  asked-word s run w place = asked-by (run.len == 0) s run.first run.len w refl place

-- ---- of an entry

module _ (ds : List ℕ) (f : IssueState) (own target : WordRun) (w : ℕ) where
  abbrev before : Fetching
  before = record { bus = f.bus; answered = 0; awaited = 0 }

  abbrev own_words : Fetching
  own_words = fetch_words ds f.past before (wanted_from f) own.first own.len

  abbrev waits : ℕ
  waits = max (wanted_from f) f.c

  pub own-fetched : target.len ≡ 0 → (1 ≤ own.len → w ≡ own.first + own.len)
      → words_so_far ds f (run_with_word own w) target ≡ fetch_word ds f.past (words_so_far ds f own target) w (wanted_from f)
  unfolding words_tick fetch_words
  own-fetched none place =
      fetch-none ds f.past waits _ target.first target.len none ∙ fetch-word ds f.past (wanted_from f) before own w place
      ∙ ap (λ s. fetch_word ds f.past s w (wanted_from f)) (sym (fetch-none ds f.past waits own_words target.first target.len none))

  pub target-fetched : (1 ≤ target.len → w ≡ target.first + target.len)
      → words_so_far ds f own (run_with_word target w) ≡ fetch_word ds f.past (words_so_far ds f own target) w (max (wanted_from f) f.c)
  unfolding words_tick fetch_words
  target-fetched place = fetch-word ds f.past waits own_words target w place

  own-words : target.len ≡ 0 → words_so_far ds f own target ≡ own_words
  unfolding words_tick fetch_words
  own-words none = fetch-none ds f.past waits own_words target.first target.len none

  own-reads : target.len ≡ 0 → asked_so_far ds f own target ≡ words_asked ds f.past before (wanted_from f) own.first own.len
  unfolding fetches_asked words_asked fetch_words
  own-reads none =
      ap (λ reads. words_asked ds f.past before (wanted_from f) own.first own.len ++ reads)
      (asked-none ds f.past waits own_words target.first target.len none)
      ∙ append-nil (words_asked ds f.past before (wanted_from f) own.first own.len)

  pub target-asked : (1 ≤ target.len → w ≡ target.first + target.len)
      → asked_so_far ds f own (run_with_word target w) ≡ asked_so_far ds f own target ++ read_of ds f.past (max (wanted_from f) f.c) (words_so_far ds f own target) w
  unfolding words_tick fetches_asked fetch_words words_asked
  target-asked place =
      ap (λ reads. words_asked ds f.past before (wanted_from f) own.first own.len ++ reads) (asked-word ds f.past waits own_words target w place)
      ∙ sym (append_assoc (words_asked ds f.past before (wanted_from f) own.first own.len) (words_asked ds f.past own_words waits target.first target.len) _)

pub own-asked : (ds : List ℕ) (f : IssueState) (own target : WordRun) (w : ℕ) → target.len ≡ 0 → (1 ≤ own.len → w ≡ own.first + own.len)
    → asked_so_far ds f (run_with_word own w) target ≡ asked_so_far ds f own target ++ read_of ds f.past (wanted_from f) (words_so_far ds f own target) w
own-asked ds f own target w none place =
    own-reads ds f (run_with_word own w) target w none
    ∙ asked-word ds f.past (wanted_from f) (before ds f own target w) own w place
    ∙ ap (λ reads. reads ++ read_of ds f.past (wanted_from f) (own_words ds f own target w) w) (sym (own-reads ds f own target w none))
    ∙ ap (λ s. asked_so_far ds f own target ++ read_of ds f.past (wanted_from f) s w) (sym (own-words ds f own target w none))
