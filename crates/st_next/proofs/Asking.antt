-- The requests of one step and their premises, by a state before the entry that agrees with the known part.
use Rattle.st_next.proofs.Common.{All, ◌≡◌, ℕ, ◌+◌, ◌*◌, ◌-◌, ◌^◌, ◌≤◌, max, true, false, if◌then◌else◌, List, [], ◌∷◌, ◌++◌, map, Option, None, Some, refl, sym, ◌∙◌, ap, arith, append_assoc, append-nil, All-cons, All-nil, tick_of, Machine, word, decode_context_of, decode_context, IsPlace, decode_context-fits, side_asked, bus_after_reads, bus_after_request, answer_tick_on, log_after_reads, IsEntryInTime, AreDelaysUpTo, words_tick, wanted_from, tick_a, bus_a, index_uses, fetch_word, bus_after_index_read, fetch_words, told, behind_use, read_made, forwarded_at, Use, Entry, WordRun, Past, Fetching, IssueState, Made, served-append, served-side, served-word, wanted-early, fetched-within, past-weaker, fetching-weaker, words_of_run, entry, entry-ranges, words_alone, words_so_far, asked_so_far, IsKnown, reads_so_far, IsIssueInTime, IsEarly, IsReadFurther, prepared_as, words_told, IsToldFurther, FetchUnit}
use Rattle.st_prep.specs.declared.entries.Fetching.TheVariants.{Next as GivenWord, Found as GivenAll}
use Rattle.st_rows.proofs.Noted.{noted-two}
use Rattle.st_next.proofs.Starts.{IsNextOwn, IsNextTarget, word-behind}
use Rattle.st_next.proofs.Contents.{words-entry}
use Rattle.st_next.proofs.WordByWord.{want_of, read_of, own-asked, target-asked}
use Rattle.st_next.proofs.Late.{IsLate}
use Rattle.st_next.proofs.Telling.{next_use, own-told, target-told, told-fetches, told-planned}
use Rattle.st_next.proofs.Steps.{IsPlannedAs, what, comes-own, comes-target, comes-all, with_own, with_target, decode_context-same, entry-same}

-- ---- request ticks

data-late : (o : Option ℕ) (m w tick : ℕ) → m ≤ tick → All (IsLate m) (read_made (record { w = w; want = tick; fetch = false }) o)
data-late (Some there) m w tick h = All-nil (IsLate m)
data-late None m w tick h = All-cons (IsLate m) _ [] h (All-nil (IsLate m))

pub side-late : (past : List Past) (side : Option ℕ) (m a : ℕ) → m ≤ a → All (IsLate m) (side_asked past side a)
unfolding side_asked
side-late past None m a h = All-nil (IsLate m)
side-late past (Some w) m a h = data-late (forwarded_at past w a) m w a h

-- the bus after the read of one instruction word
served-read : (ds : List ℕ) (past : List Past) (from : ℕ) (s : Fetching) (w : ℕ) → (fetch_word ds past s w from).bus ≡ bus_after_reads ds (read_of ds past from s w) s.bus
unfolding fetch_word bus_after_request behind_use answer_tick_on
served-read ds past from s w = sym (served-word ds (tick_of s.bus.held.words w) w (want_of ds past from s) s.bus)

-- ---- the reads so far

pub reads-none : (ds : List ℕ) (f : IssueState) (next : FetchUnit) → next.planned ≡ false → reads_so_far ds f next ≡ asked_so_far ds f next.entry.own next.entry.target
reads-none ds f next un =
    ap (λ b. asked_so_far ds f next.entry.own next.entry.target ++ (if b then side_asked f.past next.entry.side next.formed.a else [])) un
    ∙ append-nil (asked_so_far ds f next.entry.own next.entry.target)

pub reads-planned : (ds : List ℕ) (f : IssueState) (next : FetchUnit) → next.planned ≡ true
    → reads_so_far ds f next ≡ asked_so_far ds f next.entry.own next.entry.target ++ side_asked f.past next.entry.side next.formed.a
reads-planned ds f next is =
    ap (λ b. asked_so_far ds f next.entry.own next.entry.target ++ (if b then side_asked f.past next.entry.side next.formed.a else [])) is

-- ---- the issue state is early enough

pub words-early : (ds : List ℕ) (f : IssueState) (own target : WordRun) (words : Fetching) → AreDelaysUpTo 255 ds → IsIssueInTime f
    → IsEntryInTime (words_alone own target) → words ≡ words_so_far ds f own target → IsEarly f words
words-early ds f own target words are is e same = record {
  room = rw same (fetching-weaker (f.c + 7 * 255 + 6) (2 ^ 64 - 512) _ (omega (arith, is.early)) (fetched-within 255 ds are f (words_alone own target) e is.tight));
  before = past-weaker f.c (2 ^ 64 - 512) f.past (omega (arith, is.early)) is.tight.done;
  wanted = omega (arith, is.early, wanted-early 255 f is.tight);
  done = omega (arith, is.early);
}

module _ (ds : List ℕ) (n now : ℕ) (f : IssueState) (x : List ℕ) (s : Machine) (before : FetchUnit) (un : before.planned ≡ false)
    (k : IsKnown ds n now f x s before) where
  pub known-entry : IsEntryInTime (entry k.table k.state)
  known-entry = entry-ranges k.table k.state k.before.machine k.indicator

  pub known-words : IsEntryInTime (words_alone before.entry.own before.entry.target)
  known-words = words-entry before.entry.own before.entry.target (entry k.table k.state) k.is_next.read_on.first known-entry

  pub known-early : AreDelaysUpTo 255 ds → IsIssueInTime f → IsEarly f before.words
  known-early are is = words-early ds f before.entry.own before.entry.target before.words are is known-words (k.is_next.read_on.words un)

  pub known-place : IsPlace before.place
  unfolding decode_context
  known-place = rw k.is_next.read_on.place (decode_context-fits k.state k.table k.before.machine k.indicator).place

  module _ (due : before.words.awaited ≤ now) (cs : List ℕ) (contents : cs ≡ map (word s) (words_of_run before.entry.own ++ words_of_run before.entry.target)) where
    -- an own word is next
    pub known-own : (w : ℕ) → what ds n now f x s before un due cs contents ≡ GivenWord w false → IsNextOwn before.entry.own before.entry.target (entry k.table k.state) w
    known-own w e = comes-own ds n now f x s before un due cs contents k.table k.state k.indicator k.before k.is_next.read_on w e

    -- an own word lies in storage
    pub own-above : (w : ℕ) → what ds n now f x s before un due cs contents ≡ GivenWord w false → 32 ≤ w
    own-above w e = let it = known-own w e in omega (arith, it.place, known-entry.own.above (omega (arith, it.more)))

    pub own-asks : (w : ℕ) (after : FetchUnit) (log new : List Made) → what ds n now f x s before un due cs contents ≡ GivenWord w false
        → after ≡ with_own ds n now f x s before un due cs contents w → new ≡ log_after_reads ds (read_of ds f.past (wanted_from f) before.words w) before.words.bus log
        → IsReadFurther ds f before after log new
    own-asks w after log new e same kept =
        let it = known-own w e in
        let place = word-behind before.entry.own (entry k.table k.state).own w k.is_next.read_on.first.own_start it.place in
        let there = with_own ds n now f x s before un due cs contents w in
        rw same (record {
          added = read_of ds f.past (wanted_from f) before.words w;
          so_far =
              reads-none ds f there un ∙ own-asked ds f before.entry.own before.entry.target w it.none place
              ∙ ap (λ s. asked_so_far ds f before.entry.own before.entry.target ++ read_of ds f.past (wanted_from f) s w) (sym (k.is_next.read_on.words un))
              ∙ ap (λ reads. reads ++ read_of ds f.past (wanted_from f) before.words w) (sym (reads-none ds f before un));
          bus = served-read ds f.past (wanted_from f) before.words w;
          kept = kept;
        })

    pub own-tells : {A : Type 0} (noted : List Use → A → A) (w : ℕ) (after : FetchUnit) (m o : A) → what ds n now f x s before un due cs contents ≡ GivenWord w false
        → after ≡ with_own ds n now f x s before un due cs contents w → o ≡ noted (told ds f.past (next_use ds f.past (wanted_from f) before.words w ∷ [])) m
        → IsToldFurther noted ds f before after m o
    own-tells noted w after m o e same one =
        let it = known-own w e in
        let place = word-behind before.entry.own (entry k.table k.state).own w k.is_next.read_on.first.own_start it.place in
        let there = with_own ds n now f x s before un due cs contents w in
        rw same (record {
          used = told ds f.past (next_use ds f.past (wanted_from f) before.words w ∷ []);
          so_far =
              told-fetches ds f there un ∙ own-told ds f before.entry.own before.entry.target w it.none place
              ∙ ap (λ s. words_told ds f before.entry.own before.entry.target ++ told ds f.past (next_use ds f.past (wanted_from f) s w ∷ [])) (sym (k.is_next.read_on.words un))
              ∙ ap (λ us. us ++ told ds f.past (next_use ds f.past (wanted_from f) before.words w ∷ [])) (sym (told-fetches ds f before un));
          told = one;
        })

    -- a word of the target is next
    pub known-target : (w : ℕ) → what ds n now f x s before un due cs contents ≡ GivenWord w true → IsNextTarget before.entry.own before.entry.target (entry k.table k.state) w
    known-target w e = comes-target ds n now f x s before un due cs contents k.table k.state k.indicator k.before k.is_next.read_on w e

    pub target-above : (w : ℕ) → what ds n now f x s before un due cs contents ≡ GivenWord w true → 32 ≤ w
    target-above w e = let it = known-target w e in omega (arith, it.place, known-entry.target.above (omega (arith, it.more)))

    pub target-asks : (w : ℕ) (after : FetchUnit) (log new : List Made) → what ds n now f x s before un due cs contents ≡ GivenWord w true
        → after ≡ with_target ds n now f x s before un due cs contents w
        → new ≡ log_after_reads ds (read_of ds f.past (max (wanted_from f) f.c) before.words w) before.words.bus log → IsReadFurther ds f before after log new
    target-asks w after log new e same kept =
        let it = known-target w e in
        let place = word-behind before.entry.target (entry k.table k.state).target w k.is_next.read_on.first.target_start it.place in
        let there = with_target ds n now f x s before un due cs contents w in
        let waits = max (wanted_from f) f.c in
        rw same (record {
          added = read_of ds f.past waits before.words w;
          so_far =
              reads-none ds f there un ∙ target-asked ds f before.entry.own before.entry.target w place
              ∙ ap (λ s. asked_so_far ds f before.entry.own before.entry.target ++ read_of ds f.past waits s w) (sym (k.is_next.read_on.words un))
              ∙ ap (λ reads. reads ++ read_of ds f.past waits before.words w) (sym (reads-none ds f before un));
          bus = served-read ds f.past waits before.words w;
          kept = kept;
        })

    pub target-tells : {A : Type 0} (noted : List Use → A → A) (w : ℕ) (after : FetchUnit) (m o : A) → what ds n now f x s before un due cs contents ≡ GivenWord w true
        → after ≡ with_target ds n now f x s before un due cs contents w
        → o ≡ noted (told ds f.past (next_use ds f.past (max (wanted_from f) f.c) before.words w ∷ [])) m → IsToldFurther noted ds f before after m o
    target-tells noted w after m o e same one =
        let it = known-target w e in
        let place = word-behind before.entry.target (entry k.table k.state).target w k.is_next.read_on.first.target_start it.place in
        let there = with_target ds n now f x s before un due cs contents w in
        let waits = max (wanted_from f) f.c in
        rw same (record {
          used = told ds f.past (next_use ds f.past waits before.words w ∷ []);
          so_far =
              told-fetches ds f there un ∙ target-told ds f before.entry.own before.entry.target w place
              ∙ ap (λ s. words_told ds f before.entry.own before.entry.target ++ told ds f.past (next_use ds f.past waits s w ∷ [])) (sym (k.is_next.read_on.words un))
              ∙ ap (λ us. us ++ told ds f.past (next_use ds f.past waits before.words w ∷ [])) (sym (told-fetches ds f before un));
          told = one;
        })

    -- the entry is prepared
    module _ (e : what ds n now f x s before un due cs contents ≡ GivenAll before.fetched.value) (prepared : before ≡ prepared_as before.fetched.value x s before) where
      pub known-seen : IsEntryInTime before.entry
      known-seen =
          let it = comes-all ds n now f x s before un due cs contents k.table k.state k.indicator k.before k.is_next.read_on before.fetched.value e in
          rw (ap (λ (m : FetchUnit). m.entry) prepared
          ∙ entry-same k.table k.state before.entry.own before.entry.target (decode_context_of before.place before.fetched.value x s) it.0.own_all it.0.target_all
          (decode_context-same now f x s k.state k.table before.place before.fetched.value k.before k.is_next.read_on.place it.1)) known-entry

      pub plan-words : before.words ≡ words_tick ds f before.entry
      unfolding words_tick fetch_words
      plan-words = k.is_next.read_on.words un ∙ ap (λ (m : FetchUnit). words_tick ds f m.entry) (sym prepared)

      pub plan-asks : (after : FetchUnit) (log new : List Made) → IsPlannedAs ds n f before after
          → new ≡ log_after_reads ds (side_asked f.past after.entry.side after.formed.a) before.words.bus log → IsReadFurther ds f before after log new
      unfolding bus_a bus_after_index_read
      plan-asks after log new made kept =
          let g = before.entry in
          let side = side_asked f.past after.entry.side after.formed.a in
          let same : side ≡ side_asked f.past g.side (tick_a ds f g) = rw (ap (λ (m : FetchUnit). m.entry) made.rest, made.address) refl in
          record {
            added = side;
            so_far =
                reads-planned ds f after (ap (λ (m : FetchUnit). m.planned) made.rest)
                ∙ ap (λ r. asked_so_far ds f r after.entry.target ++ side) (ap (λ (m : FetchUnit). m.entry.own) made.rest)
                ∙ ap (λ r. asked_so_far ds f before.entry.own r ++ side) (ap (λ (m : FetchUnit). m.entry.target) made.rest)
                ∙ ap (λ reads. reads ++ side) (sym (reads-none ds f before un));
            bus = made.bus ∙ sym (served-side ds f.past g.side (tick_a ds f g) (words_tick ds f g).bus)
                ∙ ap (bus_after_reads ds (side_asked f.past g.side (tick_a ds f g))) (ap (λ (w : Fetching). w.bus) (sym plan-words))
                ∙ ap (λ reads. bus_after_reads ds reads before.words.bus) (sym same);
            kept = kept;
          }

-- the observer hears of its index-side word
pub plan-tells : {A : Type 0} (noted : List Use → A → A) (ds : List ℕ) (n : ℕ) (f : IssueState) (before after : FetchUnit) (m o : A) → before.planned ≡ false
    → IsPlannedAs ds n f before after → o ≡ noted (told ds f.past (index_uses ds f before.entry)) m → IsToldFurther noted ds f before after m o
plan-tells noted ds n f before after m o un made one =
    let same : after.entry ≡ before.entry = ap (λ (m : FetchUnit). m.entry) made.rest in
    record {
      used = told ds f.past (index_uses ds f before.entry);
      so_far =
          told-planned ds f after (ap (λ (m : FetchUnit). m.planned) made.rest) (made.address ∙ ap (tick_a ds f) (sym same))
          ∙ ap (λ (g : Entry). words_told ds f g.own g.target ++ told ds f.past (index_uses ds f g)) same
          ∙ ap (λ us. us ++ told ds f.past (index_uses ds f before.entry)) (sym (told-fetches ds f before un));
      told = one;
    }

-- ---- steps in sequence

pub further-then : (ds : List ℕ) (f : IssueState) (a b c : FetchUnit) (log one two : List Made) → IsReadFurther ds f a b log one → IsReadFurther ds f b c one two
    → IsReadFurther ds f a c log two
further-then ds f a b c log one two first then_ = record {
  added = first.added ++ then_.added;
  so_far = then_.so_far ∙ ap (λ reads. reads ++ then_.added) first.so_far ∙ append_assoc (reads_so_far ds f a) first.added then_.added;
  bus = then_.bus ∙ ap (bus_after_reads ds then_.added) first.bus ∙ sym (served-append ds first.added then_.added a.words.bus);
  kept = then_.kept ∙ noted-two ds first.added then_.added a.words.bus b.words.bus log one first.bus first.kept;
}

pub further-nothing : (ds : List ℕ) (f : IssueState) (a : FetchUnit) (log : List Made) → IsReadFurther ds f a a log log
unfolding bus_after_reads log_after_reads
further-nothing ds f a log = record { added = []; so_far = sym (append-nil (reads_so_far ds f a)); bus = refl; kept = refl }

-- ---- the number of words

pub count-most : (own target : WordRun) → IsEntryInTime (words_alone own target) → own.len + target.len ≤ 4
count-most own target is = omega (arith, is.own_few, is.target_few)
