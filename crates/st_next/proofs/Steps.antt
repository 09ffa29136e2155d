-- One step of the fetch unit, for every state before the entry.
use Rattle.st_next.proofs.Common.{◌≡◌, ℕ, zero, suc, ◌≤◌, ◌<◌, max, Bool, true, false, List, ◌++◌, map, inl, inr, Option, refl, sym, subst, ◌∙◌, ap, arith, IfSome, Machine, word, Fetched, Place, Needs, Prepared, index_words, place_of, DecodeContext, decode_context_of, decode_context, needs, reading_at_place, left_after, fetching_of, wanted_from, tick_a, bus_a, tick_p, fetch_word, WordRun, Fetching, IssueState, words_of_run, reading_at, entry, entry_with, entry-ranges, run_with_word, IsStateBefore, IsReadOn, IsPlanned, preparation_without_side, Rests, GoesOnTo, as_entry, prepared_as, FetchUnit}
use Rattle.st_prep.specs.declared.entries.Fetching.{Fetching as Giving}
use Rattle.st_prep.specs.declared.entries.Fetching.TheVariants.{Next as GivenWord, Found as GivenAll}
use Rattle.st_prep.specs.Fetch.{words_fetched as fetched_at}
use Rattle.st_segment.proofs.KnownEarly.{entry-seen}
use Rattle.st_next.proofs.Starts.{IsNextOwn, own-more, IsNextTarget, target-more, word-behind, IsAll}
use Rattle.st_next.proofs.Given.{contents_of, gives-own, gives-target, gives-all}
use Rattle.st_next.proofs.Contents.{words-entry, contents-same, reading-same, given-same}
use Rattle.st_next.proofs.WordByWord.{own-fetched, target-fetched}
use Rattle.st_next.proofs.Late.{waits-some}

pub planned-none : (b : Bool) (ds : List ℕ) (n : ℕ) (t : Option ℕ) (u : Machine) (f : IssueState) (next : FetchUnit) → b ≡ false → b ≡ true → IsPlanned ds n t u f next
planned-none b ds n t u f next un is = absurd (cc)

abbrev decode_context_with : Place → Fetched → List ℕ → ℕ → Bool → DecodeContext
decode_context_with p fd x b on = record { place = p; fetched = fd; x = x; bounds = b; enabled = on }

-- the decode context from the known part is that of the state before the entry
pub decode_context-same : (now : ℕ) (f : IssueState) (x : List ℕ) (s u : Machine) (t : Option ℕ) (p : Place) (fd : Fetched) → IsStateBefore now f.past x s u
    → p ≡ place_of u t → fd ≡ fetched_at u (place_of u t) → decode_context_of p fd x s ≡ decode_context u (place_of u t)
unfolding decode_context
decode_context-same now f x s u t p fd is place found =
    ap (λ p. decode_context_of p fd x s) place ∙ ap (λ fd. decode_context_of (place_of u t) fd x s) found
    ∙ ap (λ x. decode_context_of (place_of u t) (fetched_at u (place_of u t)) x s) (sym is.index)
    ∙ ap (λ b. decode_context_with (place_of u t) (fetched_at u (place_of u t)) (index_words u) b s.enabled) (sym is.bounds)
    ∙ ap (λ on. decode_context_with (place_of u t) (fetched_at u (place_of u t)) (index_words u) (word u 3) on) (sym is.enabled)

-- the entry from the known decode context is the next entry of the state
pub entry-same : (t : Option ℕ) (u : Machine) (own target : WordRun) (v : DecodeContext) → own ≡ (entry t u).own → target ≡ (entry t u).target
    → v ≡ decode_context u (place_of u t) → entry_with own target (needs v) (preparation_without_side v) v.place.table v.fetched.fault ≡ entry t u
entry-same t u own target v o g e = rw (o, g, e) (sym (entry-seen t u _))

-- the fetch unit with a fetched instruction, its needs and its preparation
abbrev pub shown : FetchUnit → Fetched → Needs → Prepared → FetchUnit
shown next fd needed prepared =
    let m = record next { fetched = record { marker = record {}; value = fd }; needs = needed; prepared = prepared } in
    record m { entry = as_entry m }

pub shown-as : (next : FetchUnit) (x : List ℕ) (s : Machine) (fd given : Fetched) (needed : Needs) (prepared : Prepared) → given ≡ fd
    → needed ≡ needs (decode_context_of next.place fd x s) → prepared ≡ preparation_without_side (decode_context_of next.place fd x s)
    → shown next given needed prepared ≡ prepared_as fd x s next
shown-as next x s fd given needed prepared f n p = rw (f, n, p) refl

-- the prepared entry is planned
pub record IsPlannedAs (ds : List ℕ) (n : ℕ) (f : IssueState) (before after : FetchUnit) : Type 0 where
  pub rest : after ≡ record before { words = after.words; formed = after.formed; planned = true }
  pub awaited : after.words.awaited ≡ before.words.awaited
  pub address : after.formed.a ≡ tick_a ds f before.entry
  pub bus : after.words.bus ≡ bus_a ds f before.entry
  pub tick : after.formed.p ≡ tick_p ds n f before.entry

module _ (ds : List ℕ) (n now : ℕ) (f : IssueState) (x : List ℕ) (s : Machine) (before : FetchUnit) (un : before.planned ≡ false) (due : before.words.awaited ≤ now)
    (cs : List ℕ) (contents : cs ≡ map (word s) (words_of_run before.entry.own ++ words_of_run before.entry.target)) where
  abbrev pub what : Giving
  what = fetching_of (left_after (reading_at_place x (word s 3) s.enabled before.place) cs)

  module _ (t : Option ℕ) (u : Machine) (table : IfSome t (λ i. i < 64)) (is : IsStateBefore now f.past x s u) (read : IsReadOn ds t u f before) where
    there : what ≡ fetching_of (left_after (reading_at t u) (contents_of t u before.entry.own before.entry.target))
    there =
        let words = words-entry before.entry.own before.entry.target (entry t u) read.first (entry-ranges t u is.machine table) in
        given-same (reading_at_place x (word s 3) s.enabled before.place) (reading_at t u) cs (contents_of t u before.entry.own before.entry.target)
        (reading-same now f.past x s u t before.place is read.place)
        (contents ∙ contents-same ds now f x s u before.entry.own before.entry.target is words (omega (arith, due, ap (λ (w : Fetching). w.awaited) (read.words un))))

    pub comes-own : (w : ℕ) → what ≡ GivenWord w false → IsNextOwn before.entry.own before.entry.target (entry t u) w
    comes-own w e = gives-own t u before.entry.own before.entry.target w read.first (sym there ∙ e)

    pub comes-target : (w : ℕ) → what ≡ GivenWord w true → IsNextTarget before.entry.own before.entry.target (entry t u) w
    comes-target w e = gives-target t u before.entry.own before.entry.target w read.first (sym there ∙ e)

    pub comes-all : (fd : Fetched) → what ≡ GivenAll fd → IsAll before.entry.own before.entry.target (entry t u) × (fd ≡ fetched_at u (place_of u t))
    comes-all fd e = gives-all t u before.entry.own before.entry.target fd read.first (sym there ∙ e)

  -- ---- an own word

  abbrev pub with_own : ℕ → FetchUnit
  with_own w = record before { words = fetch_word ds f.past before.words w (wanted_from f); entry = record before.entry { own = run_with_word before.entry.own w } }

  own-read : (t : Option ℕ) (u : Machine) (w : ℕ) → IsReadOn ds t u f before → IsNextOwn before.entry.own before.entry.target (entry t u) w → IsReadOn ds t u f (with_own w)
  own-read t u w read is =
      let words = ap (λ (s : Fetching). fetch_word ds f.past s w (wanted_from f)) (read.words un)
      ∙ sym (own-fetched ds f before.entry.own before.entry.target w is.none (word-behind before.entry.own (entry t u).own w read.first.own_start is.place)) in
      record {
        place = read.place;
        first = own-more before.entry.own before.entry.target (entry t u) w read.first is;
        words = λ none. words;
        awaited = ap (λ (s : Fetching). s.awaited) words;
      }

  pub own-goes : (w : ℕ) (after : FetchUnit) → what ≡ GivenWord w false → after ≡ with_own w → GoesOnTo ds n now f x s before after 0
  own-goes w after e same = subst (λ a. GoesOnTo ds n now f x s before a 0) (sym same) (record {
    each = λ t u table is next. let it = comes-own t u table is next.read_on w e in (
      record { read_on = own-read t u w next.read_on it; planned = planned-none before.planned ds n t u f (with_own w) un },
      λ none. inl (omega arith),
    );
  })

  -- ---- a word of the target

  abbrev pub with_target : ℕ → FetchUnit
  with_target w = record before { words = fetch_word ds f.past before.words w (max (wanted_from f) f.c); entry = record before.entry { target = run_with_word before.entry.target w } }

  target-read : (t : Option ℕ) (u : Machine) (w : ℕ) → IsReadOn ds t u f before → IsNextTarget before.entry.own before.entry.target (entry t u) w → IsReadOn ds t u f (with_target w)
  target-read t u w read is =
      let words = ap (λ (s : Fetching). fetch_word ds f.past s w (max (wanted_from f) f.c)) (read.words un)
      ∙ sym (target-fetched ds f before.entry.own before.entry.target w (word-behind before.entry.target (entry t u).target w read.first.target_start is.place)) in
      record {
        place = read.place;
        first = target-more before.entry.own before.entry.target (entry t u) w read.first is;
        words = λ none. words;
        awaited = ap (λ (s : Fetching). s.awaited) words;
      }

  pub target-goes : (w : ℕ) (after : FetchUnit) → what ≡ GivenWord w true → after ≡ with_target w → GoesOnTo ds n now f x s before after 0
  target-goes w after e same = subst (λ a. GoesOnTo ds n now f x s before a 0) (sym same) (record {
    each = λ t u table is next. let it = comes-target t u table is next.read_on w e in (
      record { read_on = target-read t u w next.read_on it; planned = planned-none before.planned ds n t u f (with_target w) un },
      λ none. inl (omega arith),
    );
  })

  -- ---- the target awaits the previous entry

  waits-rests : (k later : ℕ) (t : Option ℕ) (u : Machine) (w : ℕ) → before.entry.target.len ≡ k → later ≤ f.c → IsNextTarget before.entry.own before.entry.target (entry t u) w
      → Rests later t u f before
  waits-rests zero later t u w none early is = λ un. inr (is.all, none, (let more = is.more in omega arith), early)
  waits-rests (suc k) later t u w some early is = λ un. inl (omega (arith, early, waits-some f before.entry.target (omega arith)))

  pub target-waits : (later w : ℕ) → what ≡ GivenWord w true → later ≤ f.c → GoesOnTo ds n now f x s before before later
  target-waits later w e early = record {
    each = λ t u table is next. let it = comes-target t u table is next.read_on w e in (next, waits-rests before.entry.target.len later t u w refl early it);
  }

  -- ---- the entry is prepared

  pub prepared-goes : (fd : Fetched) (after : FetchUnit) → after ≡ prepared_as fd x s before → GoesOnTo ds n now f x s before after 0
  prepared-goes fd after same = subst (λ a. GoesOnTo ds n now f x s before a 0) (sym same) (record {
    each = λ t u table is next. (
      record {
        read_on = record { place = next.read_on.place; first = next.read_on.first; words = next.read_on.words; awaited = next.read_on.awaited };
        planned = planned-none before.planned ds n t u f (prepared_as fd x s before) un;
      },
      λ none. inl (omega arith),
    );
  })

  -- ---- the plan

  pub plan-goes : (after : FetchUnit) (later : ℕ) → what ≡ GivenAll before.fetched.value → before ≡ prepared_as before.fetched.value x s before → IsPlannedAs ds n f before after
      → GoesOnTo ds n now f x s before after later
  plan-goes after later e prepared made = subst (λ a. GoesOnTo ds n now f x s before a later) (sym made.rest) (record {
    each = λ t u table is next.
        let it = comes-all t u table is next.read_on before.fetched.value e in
        let same = decode_context-same now f x s u t before.place before.fetched.value is next.read_on.place it.1 in
        let whole = ap (λ (m : FetchUnit). m.entry) prepared ∙ entry-same t u before.entry.own before.entry.target (decode_context_of before.place before.fetched.value x s) it.0.own_all it.0.target_all same in (
          record {
            read_on = record {
              place = next.read_on.place;
              first = next.read_on.first;
              words = λ none. absurd (cc);
              awaited = made.awaited ∙ next.read_on.awaited;
            };
            planned = λ done. record {
              found = it.1;
              needs = ap (λ (m : FetchUnit). m.needs) prepared ∙ ap needs same;
              prepared = ap (λ (m : FetchUnit). m.prepared) prepared ∙ ap preparation_without_side same;
              entry = whole;
              address = made.address ∙ ap (tick_a ds f) whole;
              bus = made.bus ∙ ap (bus_a ds f) whole;
              tick = made.tick ∙ ap (tick_p ds n f) whole;
            };
          },
          λ none. absurd (cc),
        );
  })
