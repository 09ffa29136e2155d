-- States that differ only in indicators and orders have equal entries in flight.
use Rattle.st_ahead.proofs.Common.{◌≡◌, ℕ, zero, suc, ◌<◌, ◌≤◌, Bool, true, false, List, ◌++◌, ◌⊎◌, Option, None, refl, sym, subst, ◌∙◌, ap, arith, All-weaker, Machine, IsMachine, AreAlikeBesideOrders, place_of, needs, decode_context, plan, prediction, prediction-machine, reads_of_entry, issue_after_entry, tick_a, bus_a, tick_p, IsLogged, Entry, IssueState, ahead, entry, predictions, table_behind, RunAhead, AreNotDone, PlannedRow, AreFirstWords, IsNext, IsPlanned, preparation_without_side, Rests, wanted_next, reads_so_far, FetchUnit, LookaheadView, IsLookahead, IsOpened, IsNextIf, asked_ahead, count, is_open}
use Rattle.st_segment.proofs.PassedOver.{entry-same, passed-over}
use Rattle.st_segment.proofs.SameReading.{same-index, same-place, same-decode_context}
use Rattle.st_ring.proofs.AloneLemmas.{AwaitsLast, behind-ahead}
use Rattle.st_ring.proofs.PassLemmas.{ahead-same, full-same}

-- ---- predictions

pub prediction-same : (s u : Machine) → IsMachine s → AreAlikeBesideOrders s u → (plan s None).serial ≡ false
    → AreAlikeBesideOrders (prediction None s) (prediction None u)
unfolding predictions RunAhead
prediction-same s u m beside free = (passed-over 1 s u m beside (free, tt)).1

module _ (ds : List ℕ) (n : ℕ) where
  -- ---- reads

  pub asked-same : (k : ℕ) (s u : Machine) (f : IssueState) → IsMachine s → AreAlikeBesideOrders s u → RunAhead k None s
      → asked_ahead ds n k None u f ≡ asked_ahead ds n k None s f
  unfolding RunAhead ahead
  asked-same zero s u f m beside run = refl
  asked-same (suc k) s u f m beside run =
      let same = entry-same None s u beside in
      ap (λ e. reads_of_entry ds n f e ++ asked_ahead ds n k None (prediction None u) (issue_after_entry ds n f e)) same
      ∙ ap (λ reads. reads_of_entry ds n f (entry None s) ++ reads)
      (asked-same k (prediction None s) (prediction None u) (issue_after_entry ds n f (entry None s)) (prediction-machine None s m tt) (prediction-same s u m beside run.0) run.1)

  -- ---- the next entry

  planned-same : (t : Option ℕ) (s u : Machine) (f : IssueState) (next : FetchUnit) → AreAlikeBesideOrders s u
      → IsPlanned ds n t s f next → IsPlanned ds n t u f next
  unfolding decode_context
  planned-same t s u f next beside is =
      let same : entry t s ≡ entry t u = sym (entry-same t s u beside) in
      let seen : decode_context s (place_of s t) ≡ decode_context u (place_of u t) = sym (same-decode_context s u t beside) in
      record {
        found = is.found ∙ ap (λ v. v.fetched) seen;
        needs = is.needs ∙ ap needs seen;
        prepared = is.prepared ∙ ap preparation_without_side seen;
        entry = is.entry ∙ same;
        address = is.address ∙ ap (λ e. tick_a ds f e) same;
        bus = is.bus ∙ ap (λ e. bus_a ds f e) same;
        tick = is.tick ∙ ap (λ e. tick_p ds n f e) same;
      }

  next-same : (t : Option ℕ) (s u : Machine) (f : IssueState) (next : FetchUnit) → AreAlikeBesideOrders s u
      → IsNext ds n t s f next → IsNext ds n t u f next
  next-same t s u f next beside is = record {
    read_on = record {
      place = is.read_on.place ∙ sym (same-place s u t beside);
      first = subst (AreFirstWords next.entry.own next.entry.target) (sym (entry-same t s u beside)) is.read_on.first;
      words = is.read_on.words;
      awaited = is.read_on.awaited;
    };
    planned = λ done. planned-same t s u f next beside (is.planned done);
  }

  rests-same : (now : ℕ) (t : Option ℕ) (s u : Machine) (f : IssueState) (next : FetchUnit) → AreAlikeBesideOrders s u
      → Rests now t s f next → Rests now t u f next
  rests-same now t s u f next beside rests =
      subst (λ (e : Entry). next.planned ≡ false → (now ≤ wanted_next f next)
      ⊎ ((next.entry.own ≡ e.own) × (next.entry.target.len ≡ 0) × (1 ≤ e.target.len) × (now ≤ f.c)))
      (sym (entry-same t s u beside)) rests

  pub next-if_same : (b : Bool) (now : ℕ) (s u : Machine) (v : LookaheadView) → AreAlikeBesideOrders (predictions (count v) None s) (predictions (count v) None u)
      → IsNextIf b ds n now None s v → IsNextIf b ds n now None u v
  next-if_same true now s u v beside is = (
    next-same (table_behind (count v) None) (predictions (count v) None s) (predictions (count v) None u) v.issue v.next beside is.0,
    rests-same now (table_behind (count v) None) (predictions (count v) None s) (predictions (count v) None u) v.issue v.next beside is.1,
  )
  next-if_same false now s u v beside is = is

-- ---- the look-ahead

pub lookahead-same : (ds : List ℕ) (n tick now : ℕ) (s u : Machine) (f : IssueState) (v : LookaheadView) → RunAhead (count v) None s
    → IsLookahead ds n tick now None s f v → IsMachine u → AreAlikeBesideOrders s u → IsLookahead ds n tick now None u f v
lookahead-same ds n tick now s u f v run is m beside =
    let over = passed-over (count v) s u is.outlook.machine beside run in
    record {
      outlook = record {
        machine = m;
        indicator = tt;
        ahead = ahead-same ds n tick s u f v.issue v.levels is.outlook.machine beside run is.outlook.ahead;
        prepared = is.outlook.prepared;
        not_done = is.outlook.not_done;
        oldest = is.outlook.oldest;
        tight = is.outlook.tight;
        start = is.outlook.start;
        early = is.outlook.early;
        next = next-if_same ds n (is_open v) now s u v over.1 is.outlook.next;
        late = is.outlook.late;
        logged =
            subst (λ reads. IsLogged ds f.bus.free (reads ++ reads_so_far ds v.issue v.next) f.bus v.log)
            (sym (asked-same ds n (count v) s u f is.outlook.machine beside run)) is.outlook.logged;
      };
      full = full-same ds n tick s u f v.levels.ring is.outlook.machine beside run is.full;
    }

-- if the previous entry completes at the tick, no uncompleted level is serializing
pub lookahead-ahead : (ds : List ℕ) (n tick now : ℕ) → ((f : IssueState) (e : Entry) → AwaitsLast ds n f e)
    → (t : Option ℕ) (s : Machine) (f : IssueState) (v : LookaheadView) → IsLookahead ds n tick now t s f v → AreNotDone now v.levels
    → now ≤ f.c → RunAhead (count v) t s
unfolding RunAhead
lookahead-ahead ds n tick now awaits t s f v is late done = by-count (count v) refl
  where
    by-count : (k : ℕ) → count v ≡ k → RunAhead (count v) t s
    by-count zero e = rw e tt
    by-count (suc k) e =
        (behind-ahead ds n tick now awaits t s f v.issue v.levels.ring v.levels.plans is.outlook.ahead.levels is.outlook.prepared
        (All-weaker (λ (q : PlannedRow). now < q.c) (λ (q : PlannedRow). now ≤ q.c) (λ q h. omega arith) v.levels.plans late) done (omega arith)).1

-- an opening is one for both states
pub opened-same : (t : Option ℕ) (s u : Machine) (f : IssueState) (v : LookaheadView) → IsOpened t s f v → AreAlikeBesideOrders s u
    → IsOpened t u f v
opened-same t s u f v is beside = assumption (is.index ∙ sym (same-index s u beside), is.place ∙ sym (same-place s u t beside))
