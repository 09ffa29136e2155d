-- More becomes known of the next entry while the levels before it are not completed.
use Rattle.st_ahead.proofs.Common.{All, if◌then◌else◌, ◌==◌, ◌≡◌, ℕ, zero, suc, ◌<◌, ◌≤◌, ◌||◌, max, Bool, true, false, not, List, [], ◌∷◌, ◌++◌, append_assoc, length, inl, inr, Option, refl, sym, subst, ◌∙◌, ap, arith, ◌+◌, All-head, Machine, bus_after_reads, Read, log_after_reads, IsLogged, IsEntryInTime, row_of_entry, tick_a, Bus, Entry, Fetching, IssueState, Made, logged-noted, a-p, served-append, entry, predictions, table_behind, entry-ranges, behind-indicator, AreAhead, PlannedRow, levels-beside, done-order, IsStateBefore, IsIssueInTime, GoesOnTo, IsReadFurther, IsNext, IsPlanned, IsKnown, Rests, reads_so_far, FetchUnit, address-late, new-reads, LookaheadView, IsNextIf, count, is_open, asked_ahead, reads_ahead, IsGoing}
use Rattle.std.specs.Prelude.{◌-◌, ◌^◌}
use Rattle.st_next.proofs.Whole.{served-so-far}
use Rattle.st_ahead.proofs.Served.{served-ahead}

-- ---- an entry that rests up to a tick rests up to an earlier one

rests-sooner : (now sooner : ℕ) (t : Option ℕ) (u : Machine) (f : IssueState) (next : FetchUnit) → sooner ≤ now → Rests now t u f next → Rests sooner t u f next
rests-sooner now sooner t u f next early rests = λ un. elim (rests un) [
  | inl late ↦ inl (omega (arith, early, late))
  | inr is ↦ inr (is.0, is.1, is.2, omega (arith, early, is.3))
]

pub next-sooner : (b : Bool) (ds : List ℕ) (n now sooner : ℕ) (t : Option ℕ) (s : Machine) (v : LookaheadView) → sooner ≤ now
    → IsNextIf b ds n now t s v → IsNextIf b ds n sooner t s v
next-sooner true ds n now sooner t s v early is =
    (is.0, rests-sooner now sooner (table_behind (count v) t) (predictions (count v) t s) v.issue v.next early is.1)
next-sooner false ds n now sooner t s v early is = is

-- ---- the entry is already planned

pub next-planned : (b : Bool) (ds : List ℕ) (n now later : ℕ) (t : Option ℕ) (s : Machine) (v : LookaheadView) → v.next.planned ≡ true
    → IsNextIf b ds n now t s v → IsNextIf b ds n later t s v
next-planned true ds n now later t s v planned is = (is.0, λ un. absurd (cc (planned, un)))
next-planned false ds n now later t s v planned is = is

pub going-planned : (ds : List ℕ) (n now rest later : ℕ) (t : Option ℕ) (s : Machine) (f : IssueState) (v : LookaheadView) → v.next.planned ≡ true
    → IsGoing ds n now rest t s f v → IsGoing ds n now later t s f v
going-planned ds n now rest later t s f v planned is = assumption (next-planned (is_open v) ds n rest later t s v planned is.next)

-- ---- after a serializing level nothing is known of the entry

closed-on : (b : Bool) (ds : List ℕ) (n now later : ℕ) (t : Option ℕ) (s : Machine) (v : LookaheadView) → b ≡ false
    → IsNextIf b ds n now t s v → IsNextIf b ds n later t s v
closed-on true ds n now later t s v closed is = absurd (cc closed)
closed-on false ds n now later t s v closed is = is

pub going-closed : (ds : List ℕ) (n now rest later : ℕ) (t : Option ℕ) (s : Machine) (f : IssueState) (v : LookaheadView) → is_open v ≡ false
    → IsGoing ds n now rest t s f v → IsGoing ds n now later t s f v
going-closed ds n now rest later t s f v closed is = assumption (closed-on (is_open v) ds n rest later t s v closed is.next)

-- after a serializing level no word is requested
pub going-still : (ds : List ℕ) (n now rest later : ℕ) (t : Option ℕ) (s : Machine) (f : IssueState) (v : LookaheadView) (next : FetchUnit) (log : List Made)
    → next ≡ v.next → log ≡ v.log → is_open v ≡ false → IsGoing ds n now rest t s f v
    → IsGoing ds n now later t s f (record { levels = v.levels; issue = v.issue; log = log; next = next })
going-still ds n now rest later t s f v next log same kept closed is = rw (same, kept) (going-closed ds n now rest later t s f v closed is)

-- if the entry awaits nothing as late as the oldest completion, the youngest level is not serializing
pub open-waits : (first alone : Bool) (a c due : ℕ) → max a (if alone then c else 0) < due → (first ≡ false → due ≤ c) → (first || not alone) ≡ true
open-waits true alone a c due early late = refl
open-waits false false a c due early late = refl
open-waits false true a c due early late = let no : ⊥ = omega (arith, early, late refl) in absurd no

pub closed-waits : (first alone : Bool) (a c due : ℕ) → (first || not alone) ≡ false → (first ≡ false → due ≤ c) → due ≤ max a (if alone then c else 0)
closed-waits true alone a c due closed late = absurd (cc closed)
closed-waits false false a c due closed late = absurd (cc closed)
closed-waits false true a c due closed late = omega (arith, late refl)

pub some-by : (k : ℕ) → (k == 0) ≡ false → 1 ≤ k
some-by zero e = absurd (cc e)
some-by (suc k) e = omega arith

-- ---- the youngest level is not completed

pub youngest-late : (now : ℕ) (f last : IssueState) (plans : List PlannedRow) → All (λ q. now < q.c) plans
    → All (λ q. (f.c < q.c) × (q.c ≤ last.c)) plans → 1 ≤ length plans → now < last.c
youngest-late now f last [] late order some = absurd (omega arith)
youngest-late now f last (q ∷ qs) late order some =
    let here : now < q.c = All-head (λ (x : PlannedRow). now < x.c) q qs late in
    let before : (f.c < q.c) × (q.c ≤ last.c) = All-head (λ (x : PlannedRow). (f.c < x.c) × (x.c ≤ last.c)) q qs order in
    omega (arith, before.1)

pub going-late : (ds : List ℕ) (n now rest : ℕ) → ((g : IssueState) (e : Entry) → IsEntryInTime e → g.c < (row_of_entry ds n g e).c)
    → (t : Option ℕ) (s : Machine) (f : IssueState) (v : LookaheadView) → IsGoing ds n now rest t s f v → 1 ≤ count v → now < v.issue.c
going-late ds n now rest later t s f v is some =
    let beside = levels-beside ds n now t s f v.issue v.levels.ring v.levels.plans is.ahead.levels in
    let order = done-order ds n now later entry-ranges f.c t s f v.issue v.levels.ring v.levels.plans is.machine is.indicator is.ahead.levels (omega arith) in
    youngest-late now f v.issue v.levels.plans is.not_done order (omega (arith, beside, some))

pub next-known : (ds : List ℕ) (n now rest : ℕ) (t : Option ℕ) (s : Machine) (f : IssueState) (v : LookaheadView) → IsGoing ds n now rest t s f v
    → is_open v ≡ true → IsNext ds n (table_behind (count v) t) (predictions (count v) t s) v.issue v.next
    × Rests rest (table_behind (count v) t) (predictions (count v) t s) v.issue v.next
next-known ds n now rest t s f v is opened = subst (λ (b : Bool). IsNextIf b ds n rest t s v) opened is.next

pub known : (ds : List ℕ) (n now rest done : ℕ) (t : Option ℕ) (s : Machine) (f : IssueState) (v : LookaheadView) → IsGoing ds n now rest t s f v
    → is_open v ≡ true → IsStateBefore done v.issue.past v.levels.x s (predictions (count v) t s)
    → IsKnown ds n done v.issue v.levels.x s v.next
known ds n now rest done t s f v is opened before = record {
  table = table_behind (count v) t;
  state = predictions (count v) t s;
  indicator = behind-indicator (count v) t is.indicator;
  before = before;
  is_next = (next-known ds n now rest t s f v is opened).0;
}

pub going-issue : (ds : List ℕ) (n now rest : ℕ) (t : Option ℕ) (s : Machine) (f : IssueState) (v : LookaheadView) → IsGoing ds n now rest t s f v
    → n ≤ 8 → count v ≤ n → now < 2 ^ 63 → IsIssueInTime v.issue
going-issue ds n now rest t s f v is most few early =
    let early : v.issue.c ≤ 2 ^ 63 + 2 ^ 20 = omega (arith, is.early) in
    assumption

-- ---- the bus after all reads is that of the fetch unit

bus-next : (b : Bool) (ds : List ℕ) (n now : ℕ) (t : Option ℕ) (s : Machine) (v : LookaheadView) → IsNextIf b ds n now t s v
    → bus_after_reads ds (reads_so_far ds v.issue v.next) v.issue.bus ≡ v.next.words.bus
unfolding bus_after_reads
bus-next true ds n now t s v is = served-so-far ds n (table_behind (count v) t) (predictions (count v) t s) v.issue v.next is.0
bus-next false ds n now t s v is =
    ap (λ reads. bus_after_reads ds reads v.issue.bus) (new-reads ds v.issue v.next is.1 is.2 is.0) ∙ ap (λ (w : Fetching). w.bus) (sym is.3)

pub bus-ahead : (ds : List ℕ) (n tick now : ℕ) (t : Option ℕ) (s : Machine) (f : IssueState) (v : LookaheadView) → IsNextIf (is_open v) ds n now t s v
    → AreAhead ds n tick t s f v.issue v.levels → bus_after_reads ds (reads_ahead ds n t s f v) f.bus ≡ v.next.words.bus
bus-ahead ds n tick now t s f v is ahead =
    served-append ds (asked_ahead ds n (count v) t s f) (reads_so_far ds v.issue v.next) f.bus
    ∙ ap (bus_after_reads ds (reads_so_far ds v.issue v.next)) (served-ahead ds n tick t s f v.issue v.levels.ring v.levels.plans ahead.levels)
    ∙ bus-next (is_open v) ds n now t s v is

-- more reads are noted
pub logged-more : (ds : List ℕ) (now : ℕ) (before so_far after added : List Read) (b d : Bus) (log new : List Made)
    → after ≡ so_far ++ added → bus_after_reads ds (before ++ so_far) b ≡ d → new ≡ log_after_reads ds added d log
    → IsLogged ds now (before ++ so_far) b log → IsLogged ds now (before ++ after) b new
logged-more ds now before so_far after added b d log new is bus kept h =
    let list : (before ++ so_far) ++ added ≡ before ++ after = append_assoc before so_far added ∙ ap (λ l. before ++ l) (sym is) in
    let notes : log_after_reads ds added (bus_after_reads ds (before ++ so_far) b) log ≡ new = ap (λ (x : Bus). log_after_reads ds added x log) bus ∙ sym kept in
    subst (λ (l : List Made). IsLogged ds now (before ++ after) b l) notes
    (subst (λ (l : List Read). IsLogged ds now l b (log_after_reads ds added (bus_after_reads ds (before ++ so_far) b) log)) list
    (logged-noted ds now (before ++ so_far) added b log h))

-- ---- more of the entry is known

pub known-further : (ds : List ℕ) (n now later : ℕ) (t : Option ℕ) (s : Machine) (f : IssueState) (v : LookaheadView) (next : FetchUnit) (log : List Made)
    → is_open v ≡ true → v.next.planned ≡ false → IsStateBefore (later - 1) v.issue.past v.levels.x s (predictions (count v) t s)
    → GoesOnTo ds n (later - 1) v.issue v.levels.x s v.next next later → IsReadFurther ds v.issue v.next next v.log log
    → IsGoing ds n now now t s f v
    → IsGoing ds n now later t s f (record { levels = v.levels; issue = v.issue; log = log; next = next })
known-further ds n now later t s f v next log opened un before goes more is =
    let k = table_behind (count v) t in
    let u = predictions (count v) t s in
    let old = next-known ds n now now t s f v is opened in
    let new = goes.each k u (behind-indicator (count v) t is.indicator) before old.0 in
    let a : now < tick_a ds v.issue (entry k u) = address-late ds now k u v.issue v.next old.0.read_on un old.1 in
    record {
      machine = is.machine;
      indicator = is.indicator;
      ahead = is.ahead;
      prepared = is.prepared;
      not_done = is.not_done;
      oldest = is.oldest;
      tight = is.tight;
      start = is.start;
      early = is.early;
      next =
          subst (λ (b : Bool). IsNextIf b ds n later t s (record { levels = v.levels; issue = v.issue; log = log; next = next }))
          (sym opened) new;
      late = λ planned.
          let all : IsPlanned ds n k u v.issue next = new.0.planned planned in
          omega (arith, a, a-p ds n v.issue (entry k u), all.tick);
      logged =
          logged-more ds f.bus.free (asked_ahead ds n (count v) t s f) (reads_so_far ds v.issue v.next) (reads_so_far ds v.issue next) more.added
          f.bus v.next.words.bus v.log log more.so_far (bus-ahead ds n now now t s f v is.next is.ahead) more.kept is.logged;
    }
