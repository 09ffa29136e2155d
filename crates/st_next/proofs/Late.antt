-- Each further word is requested no earlier than the words so far.
use Rattle.st_next.proofs.Common.{All, ◌≡◌, ℕ, zero, suc, ◌+◌, ◌-◌, ◌≤◌, max, Bool, true, false, ◌==◌, if◌then◌else◌, List, [], ◌++◌, append_assoc, Option, None, Some, refl, sym, ◌∙◌, ap, arith, append-nil, All-append, All-cons, All-nil, tick_of, wanted_from, words_tick, fetch_word, fetch_words, word_asked, words_asked, fetches_asked, Read, answer_tick_on, bus_after_request, WordRun, Entry, Past, Fetching, IssueState, differs, IsStart, AreFirstWords, words_so_far, asked_so_far, behind, behind_use, reads_of, uses, wishes}
use Rattle.st_next.proofs.WordByWord.{want_of, fetch-more, asked-more, fetch-none, asked-none}

-- a read is requested at a tick or later
abbrev pub IsLate : ℕ → Read → Type 0
IsLate m r = m ≤ r.want

module _ (ds : List ℕ) (past : List Past) (from : ℕ) where
  -- with more words, answers and awaited completions are no earlier
  pub answered-later : (s : Fetching) (w n : ℕ) → s.answered ≤ (fetch_words ds past s from w n).answered
  unfolding fetch_word fetch_words behind_use bus_after_request answer_tick_on behind uses wishes
  answered-later s w zero = omega arith
  answered-later s w (suc n) = omega (arith, answered-later (fetch_word ds past s w from) (w + 1) n)

  pub awaited-later : (s : Fetching) (w n : ℕ) → s.awaited ≤ (fetch_words ds past s from w n).awaited
  unfolding fetch_word fetch_words behind_use bus_after_request answer_tick_on behind uses wishes
  awaited-later s w zero = omega arith
  awaited-later s w (suc n) = omega (arith, awaited-later (fetch_word ds past s w from) (w + 1) n)

  want-later : (s : Fetching) (w : ℕ) → want_of ds past from s ≤ want_of ds past from (fetch_word ds past s w from)
  unfolding fetch_word behind_use bus_after_request answer_tick_on
  want-later s w = omega arith

  pub read-late : (o : Option ℕ) (m w want : ℕ) → m ≤ want → All (IsLate m) (word_asked o w want)
  read-late (Some tick) m w want late = All-nil (IsLate m)
  read-late None m w want late = All-cons (IsLate m) _ [] late (All-nil (IsLate m))

  pub words-late : (s : Fetching) (m w n : ℕ) → m ≤ want_of ds past from s → All (IsLate m) (words_asked ds past s from w n)
  unfolding words_asked reads_of uses wishes fetch_word
  words-late s m w zero late = All-nil (IsLate m)
  words-late s m w (suc n) late =
      All-append (IsLate m) (word_asked (tick_of s.bus.held.words w) w (want_of ds past from s)) _
      (read-late (tick_of s.bus.held.words w) m w (want_of ds past from s) late)
      (words-late (fetch_word ds past s w from) m (w + 1) n (omega (arith, late, want-later s w)))

  -- ---- after the first words of a run

  start-place : (part whole : WordRun) → IsStart part whole → (s : Fetching)
      → fetch_words ds past s from whole.first part.len ≡ fetch_words ds past s from part.first part.len
  start-place part whole is s = place part.len part.first whole.first is.first
    where
      place : (n v w : ℕ) → (1 ≤ n → v ≡ w) → fetch_words ds past s from w n ≡ fetch_words ds past s from v n
      place zero v w e = fetch-none ds past from s w 0 refl ∙ sym (fetch-none ds past from s v 0 refl)
      place (suc n) v w e = ap (λ k. fetch_words ds past s from k (suc n)) (sym (e (omega arith)))

  start-reads : (part whole : WordRun) → IsStart part whole → (s : Fetching)
      → words_asked ds past s from whole.first part.len ≡ words_asked ds past s from part.first part.len
  start-reads part whole is s = place part.len part.first whole.first is.first
    where
      place : (n v w : ℕ) → (1 ≤ n → v ≡ w) → words_asked ds past s from w n ≡ words_asked ds past s from v n
      place zero v w e = asked-none ds past from s w 0 refl ∙ sym (asked-none ds past from s v 0 refl)
      place (suc n) v w e = ap (λ k. words_asked ds past s from k (suc n)) (sym (e (omega arith)))

  pub fetch-start : (part whole : WordRun) → IsStart part whole → (s : Fetching)
      → fetch_words ds past s from whole.first whole.len
      ≡ fetch_words ds past (fetch_words ds past s from part.first part.len) from (whole.first + part.len) (whole.len - part.len)
  fetch-start part whole is s =
      let cut : part.len + (whole.len - part.len) ≡ whole.len = omega (arith, is.few) in
      ap (fetch_words ds past s from whole.first) (sym cut) ∙ fetch-more ds past from s whole.first part.len (whole.len - part.len)
      ∙ ap (λ t. fetch_words ds past t from (whole.first + part.len) (whole.len - part.len)) (start-place part whole is s)

  pub asked-start : (part whole : WordRun) → IsStart part whole → (s : Fetching)
      → words_asked ds past s from whole.first whole.len
      ≡ words_asked ds past s from part.first part.len
      ++ words_asked ds past (fetch_words ds past s from part.first part.len) from (whole.first + part.len) (whole.len - part.len)
  asked-start part whole is s =
      let cut : part.len + (whole.len - part.len) ≡ whole.len = omega (arith, is.few) in
      ap (words_asked ds past s from whole.first) (sym cut) ∙ asked-more ds past from s whole.first part.len (whole.len - part.len)
      ∙ ap (λ t. words_asked ds past s from whole.first part.len ++ words_asked ds past t from (whole.first + part.len) (whole.len - part.len)) (start-place part whole is s)
      ∙ ap (λ reads. reads ++ words_asked ds past (fetch_words ds past s from part.first part.len) from (whole.first + part.len) (whole.len - part.len)) (start-reads part whole is s)

-- ---- after the first words of an entry

-- the words of the target await the previous entry
pub waits-most : (f : IssueState) (run : WordRun) → (if run.len == 0 then 0 else f.c) ≤ f.c
waits-most f run = most_if (run.len == 0)
  where
    most_if : (b : Bool) → (if b then 0 else f.c) ≤ f.c
    most_if true = omega arith
    most_if false = omega arith

pub waits-some : (f : IssueState) (run : WordRun) → 1 ≤ run.len → (if run.len == 0 then 0 else f.c) ≡ f.c
waits-some f run some =
    let no : (run.len == 0) ≡ false = differs run.len 0 (λ e. omega (arith, e)) in
    ap (λ b. if b then 0 else f.c) no

module _ (ds : List ℕ) (f : IssueState) (own target : WordRun) (e : Entry) (are : AreFirstWords own target e) where
  abbrev start : Fetching
  start = record { bus = f.bus; answered = 0; awaited = 0 }

  abbrev waits : ℕ
  waits = max (wanted_from f) f.c

  abbrev own_part : Fetching
  own_part = fetch_words ds f.past start (wanted_from f) own.first own.len

  abbrev own_whole : Fetching
  own_whole = fetch_words ds f.past start (wanted_from f) e.own.first e.own.len

  own-whole : own_whole ≡ fetch_words ds f.past own_part (wanted_from f) (e.own.first + own.len) (e.own.len - own.len)
  own-whole = fetch-start ds f.past (wanted_from f) own e.own are.own_start start

  own-answered : own_part.answered ≤ own_whole.answered
  own-answered = rw own-whole (answered-later ds f.past (wanted_from f) own_part (e.own.first + own.len) (e.own.len - own.len))

  own-awaited : own_part.awaited ≤ own_whole.awaited
  own-awaited = rw own-whole (awaited-later ds f.past (wanted_from f) own_part (e.own.first + own.len) (e.own.len - own.len))

  -- the words of the target so far
  part_by : (n : ℕ) → target.len ≡ n → ((words_so_far ds f own target).answered ≤ (words_tick ds f e).answered) × ((words_so_far ds f own target).awaited ≤ (words_tick ds f e).awaited)
  unfolding words_tick fetch_words
  part_by zero none =
      rw (fetch-none ds f.past waits own_part target.first target.len none) (
        omega (arith, own-answered, answered-later ds f.past waits own_whole e.target.first e.target.len),
        omega (arith, own-awaited, awaited-later ds f.past waits own_whole e.target.first e.target.len),
      )
  part_by (suc n) some =
      let all : own ≡ e.own = are.all_own (omega arith) in
      let same : own_whole ≡ own_part = ap (λ (r : WordRun). fetch_words ds f.past start (wanted_from f) r.first r.len) (sym all) in
      let there = fetch_words ds f.past own_part waits target.first target.len in
      rw (same, fetch-start ds f.past waits target e.target are.target_start own_part) (
        answered-later ds f.past waits there (e.target.first + target.len) (e.target.len - target.len),
        awaited-later ds f.past waits there (e.target.first + target.len) (e.target.len - target.len),
      )

  pub words-later : ((words_so_far ds f own target).answered ≤ (words_tick ds f e).answered) × ((words_so_far ds f own target).awaited ≤ (words_tick ds f e).awaited)
  words-later = part_by target.len refl

  -- ---- the remaining reads

  pub record AreLeft (m : ℕ) : Type 0 where
    pub rest : List Read
    pub reads : fetches_asked ds f e ≡ asked_so_far ds f own target ++ rest
    pub late : All (IsLate m) rest

  -- no word of the target is requested, and the next word is requested at m or later
  pub left_none : (m : ℕ) → target.len ≡ 0 → (m ≤ want_of ds f.past (wanted_from f) own_part) → AreLeft m
  unfolding fetches_asked words_asked fetch_words
  left_none m none late =
      let part = words_asked ds f.past start (wanted_from f) own.first own.len in
      let more = words_asked ds f.past own_part (wanted_from f) (e.own.first + own.len) (e.own.len - own.len) in
      let targets = words_asked ds f.past own_whole waits e.target.first e.target.len in
      record {
        rest = more ++ targets;
        reads =
            ap (λ reads. reads ++ targets) (asked-start ds f.past (wanted_from f) own e.own are.own_start start)
            ∙ append_assoc part more targets
            ∙ ap (λ reads. reads ++ (more ++ targets)) (sym (append-nil part))
            ∙ ap (λ none. (part ++ none) ++ (more ++ targets)) (sym (asked-none ds f.past waits own_part target.first target.len none));
        late =
            All-append (IsLate m) more targets
            (words-late ds f.past (wanted_from f) own_part m (e.own.first + own.len) (e.own.len - own.len) late)
            (words-late ds f.past waits own_whole m e.target.first e.target.len (omega (arith, late, own-answered, own-awaited)));
      }

  pub left_target : (m : ℕ) → own ≡ e.own → m ≤ want_of ds f.past waits (fetch_words ds f.past own_part waits target.first target.len) → AreLeft m
  unfolding fetches_asked words_asked fetch_words
  left_target m all late =
      let part = words_asked ds f.past start (wanted_from f) own.first own.len in
      let there = fetch_words ds f.past own_part waits target.first target.len in
      let targets = words_asked ds f.past own_part waits target.first target.len in
      let more = words_asked ds f.past there waits (e.target.first + target.len) (e.target.len - target.len) in
      record {
        rest = more;
        reads =
            ap (λ (r : WordRun). words_asked ds f.past start (wanted_from f) r.first r.len ++ words_asked ds f.past (fetch_words ds f.past start (wanted_from f) r.first r.len) waits e.target.first e.target.len) (sym all)
            ∙ ap (λ reads. part ++ reads) (asked-start ds f.past waits target e.target are.target_start own_part)
            ∙ sym (append_assoc part targets more);
        late = words-late ds f.past waits there m (e.target.first + target.len) (e.target.len - target.len) late;
      }
