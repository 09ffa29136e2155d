-- The opening of a segment is a look-ahead without levels.
use Rattle.st_ahead.proofs.Common.{All, if◌then◌else◌, ◌≡◌, ℕ, ◌+◌, ◌<◌, ◌≤◌, max, List, [], inl, Option, refl, sym, subst, ◌∙◌, ap, arith, append-nil, All-nil, All-replicate, Machine, IsMachine, LastAnswers, index_words, place_of, fetches_asked, words_asked, IsTight, IsNear, ArePastWithin, opening_issue, words_tick, fetch_words, fetch_word, no_runs, Level, PlannedRow, Entry, Fetching, IssueState, Past, WordRun, ahead, entry, predictions, split_words, RunAhead, LevelsView, AreLevels, AreAhead, AreFull, words_so_far, asked_so_far, IsStart, AreFirstWords, IsNext, Rests, reads_so_far, FetchUnit, LookaheadView, IsLookahead, IsOpened, behind, reads_of, uses, wishes}
use Rattle.std.specs.Prelude.{Bool, true, false}
use Rattle.std.proofs.Common.{IfSome}
use Rattle.st_fetch.specs.declared.fetched.AskedWord.{AskedWord}
use Rattle.st_fetch.specs.Planned.{no_word}
use Rattle.st_rows.proofs.NoteLemmas.{opened-log}

abbrev none : WordRun
none = record { first = 0; len = 0 }

-- ---- the issue state

opening-near : (start : ℕ) (banks : LastAnswers) → All (λ b. b ≤ start + 255) banks.ticks → IsNear 255 (opening_issue banks start).bus
opening-near start banks early = record {
  free = omega arith;
  banks = early;
  held = All-replicate (λ (h : AskedWord). h.tick ≤ start + 255) 4 no_word (omega arith);
}

opening-past : (start : ℕ) (banks : LastAnswers) → ArePastWithin start (opening_issue banks start).past
opening-past start banks = record {
  each = All-replicate (λ (entry : Past). entry.c ≤ start) 8 (record { c = 0; writes = no_runs }) (omega arith);
}

opening-tight : (start : ℕ) (banks : LastAnswers) → All (λ b. b ≤ start + 255) banks.ticks → IsTight 255 (opening_issue banks start)
opening-tight start banks early = record {
  prepared = omega arith;
  done = opening-past start banks;
  free = omega arith;
  near = opening-near start banks early;
}

-- ---- no levels

no-levels : (ds : List ℕ) (n tick : ℕ) (t : Option ℕ) (s : Machine) (f last : IssueState) (v : LevelsView)
    → v.ring ≡ [] → v.plans ≡ [] → v.x ≡ index_words s → last ≡ f → AreAhead ds n tick t s f last v
unfolding AreLevels RunAhead split_words
no-levels ds n tick t s f last v ring plans index issue = record {
  levels = rw (ring, plans) issue;
  index = rw ring index;
  run_ahead = rw ring tt;
}

no-slots : (ds : List ℕ) (n tick : ℕ) (t : Option ℕ) (s : Machine) (f : IssueState) (ring : List Level) → ring ≡ [] → AreFull ds n tick t s f ring
unfolding AreFull
no-slots ds n tick t s f ring none = rw none tt

-- ---- no words

no-words : (ds : List ℕ) (f : IssueState) → words_so_far ds f none none ≡ record { bus = f.bus; answered = 0; awaited = 0 }
unfolding words_tick fetch_words behind uses wishes fetch_word
no-words ds f = refl

no-reads : (ds : List ℕ) (f : IssueState) → asked_so_far ds f none none ≡ []
unfolding fetches_asked words_asked fetch_words reads_of uses wishes fetch_word
no-reads ds f = refl

-- ---- the next entry

start-none : (run whole : WordRun) → run ≡ none → IsStart run whole
start-none run whole e =
    let len : run.len ≡ 0 = ap (λ (r : WordRun). r.len) e in
    record { few = omega arith; first = λ some. absurd (omega arith); none = λ few. ap (λ (r : WordRun). r.first) e }

pub first-none : (own target : WordRun) (e : Entry) → own ≡ none → target ≡ none → AreFirstWords own target e
first-none own target e no_own no_target =
    let len : target.len ≡ 0 = ap (λ (r : WordRun). r.len) no_target in
    record {
      own_start = start-none own e.own no_own;
      target_start = start-none target e.target no_target;
      all_own = λ some. absurd (omega arith);
    }

pub so-far : (ds : List ℕ) (f : IssueState) (own target : WordRun) → own ≡ none → target ≡ none
    → words_so_far ds f own target ≡ record { bus = f.bus; answered = 0; awaited = 0 }
so-far ds f own target no_own no_target = rw (no_own, no_target) (no-words ds f)

reads-none : (ds : List ℕ) (f : IssueState) (next : FetchUnit) → next.entry.own ≡ none → next.entry.target ≡ none → next.planned ≡ false
    → reads_so_far ds f next ≡ []
reads-none ds f next no_own no_target unplanned = rw (no_own, no_target, unplanned) (append-nil _ ∙ no-reads ds f)

next-none : (ds : List ℕ) (n now : ℕ) (t : Option ℕ) (s : Machine) (f : IssueState) (next : FetchUnit) → next.place ≡ place_of s t
    → next.entry.own ≡ none → next.entry.target ≡ none → next.planned ≡ false
    → next.words ≡ record { bus = f.bus; answered = 0; awaited = 0 } → now ≤ f.p → f.serial ≡ false
    → IsNext ds n t s f next × Rests now t s f next
next-none ds n now t s f next place no_own no_target unplanned words late alone = (
  record {
    read_on = record {
      place = place;
      first = first-none next.entry.own next.entry.target (entry t s) no_own no_target;
      words = λ unread. words ∙ sym (so-far ds f next.entry.own next.entry.target no_own no_target);
      awaited = ap (λ (s : Fetching). s.awaited) (words ∙ sym (so-far ds f next.entry.own next.entry.target no_own no_target));
    };
    planned = λ planned. absurd (cc (planned, unplanned));
  },
  λ un. inl (omega (arith, late, wanted_if f.serial alone)),
)
  where
    wanted_if : (b : Bool) → b ≡ false → f.p ≤ (if b then max f.p f.c else f.p)
    wanted_if false e = omega arith
    wanted_if true e = absurd (cc e)

-- ---- the look-ahead

pub opening-lookahead : (ds : List ℕ) (n tick now start : ℕ) (t : Option ℕ) (s : Machine) (banks : LastAnswers) (v : LookaheadView)
    → IsOpened t s (opening_issue banks start) v → IsMachine s → IfSome t (λ i. i < 64)
    → All (λ b. b ≤ start + 255) banks.ticks → now ≤ start → start ≤ now + 9
    → IsLookahead ds n tick now t s (opening_issue banks start) v
unfolding predictions ahead
opening-lookahead ds n tick now start t s banks v is machine some early before soon =
    let f = opening_issue banks start in
    let tight = opening-tight start banks early in
    let issue : v.issue ≡ f = is.issue in
    let next = next-none ds n now t s f v.next is.place is.next.1 is.next.2 is.next.0 is.next.3 before refl in
    let reads = reads-none ds v.issue v.next is.next.1 is.next.2 is.next.0 in
    record {
      outlook = record {
        machine = machine;
        indicator = some;
        ahead = no-levels ds n tick t s f v.issue v.levels is.ring is.plans is.index issue;
        prepared = rw is.ring (All-nil (λ (level : Level). level.p < now));
        not_done = rw is.plans (All-nil (λ (q : PlannedRow). tick < q.c));
        oldest = tight;
        tight = subst (IsTight 255) (sym issue) tight;
        start = soon;
        early = rw (is.ring, issue) (omega (arith, soon));
        next = rw (is.ring, issue) next;
        late = λ planned. absurd (cc (sym is.next.0 ∙ planned));
        logged = rw (is.ring, reads, is.log) (opened-log ds f.bus.free f.bus);
      };
      full = no-slots ds n tick t s f v.levels.ring is.ring;
    }
