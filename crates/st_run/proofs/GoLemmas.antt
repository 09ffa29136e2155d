-- Before the next entry: a snapshot, or the completion of that entry.
use Rattle.st_run.proofs.Common.{slice_get, IfSome, ◌≡◌, ℕ, ◌+◌, ◌-◌, ◌<◌, ◌≤◌, ◌^◌, List, [], ◌∷◌, Option, None, Some, refl, sym, ◌∙◌, ap, subst, arith, All-tail, plan, interrupt, address, Overlap, oldest_row, machine_between_ticks, machine_after_completion, row_done, Row, Moment, Standing, next_row, next_moment, completion, timed_from, timed_behind, AreRising, Done, TimedReportedEvent, timed_reported_event, reported_events, Together, IsBeforeEntry, standing_of, moment_of, AreInTime, IsShown, IsLeft, AreMade, AreTicked, at_completion, plan-address}
use Rattle.st_rows.specs.declared.issue.EntryTicks.{EntryTicks as IssueRow}
use Rattle.st_run.proofs.Turns.{behind-done, behind-none}
use Rattle.st_run.proofs.ReportedLemmas.{once}
use Rattle.st_run.proofs.TickLemmas.{ready-table, row-same}
use Rattle.st_run.proofs.MomentLemmas.{moment-next, behind-next, row-before}
use Rattle.st_run.proofs.LeftLemmas.{next-done, next-tick, oldest-in_time}

-- the machine after a number of ticks without a completion
abbrev pub at_tick : ℕ → Together → Together
at_tick now t = record t { machine = record t.machine { now = now } }

-- ---- snapshots

pub first-late : (now : ℕ) (snaps : List ℕ) → AreRising (now - 1) snaps → IfSome (slice_get snaps 0) (λ x. now - 1 ≤ x)
unfolding AreRising
first-late now [] is = tt
first-late now (x ∷ xs) is = is.0

rising-first : (t c : ℕ) (snaps : List ℕ) → AreRising t snaps → IfSome (slice_get snaps 0) (λ x. c ≤ x) → AreRising c snaps
unfolding AreRising
rising-first t c [] is late = tt
rising-first t c (x ∷ xs) is late = (late, is.1)

-- if no snapshot is earlier, the next event is the completion
behind-completes : (ds : List ℕ) (n left : ℕ) (p : Standing) (snaps : List ℕ)
    → IfSome (slice_get snaps 0) (λ x. (next_moment ds n p).tick ≤ x)
    → timed_behind ds n left p snaps ≡ completion ds n p ∷ timed_from ds n left (next_moment ds n p) snaps
behind-completes ds n left p [] late = behind-none ds n left p
behind-completes ds n left p (x ∷ xs) late = behind-done ds n left p x xs late

pub tick-before : (t : Together) (now : ℕ) → IsBeforeEntry t → now ≤ (oldest_row t.machine).c → IsBeforeEntry (at_tick now t)
tick-before t now h early =
    let soon : now ≤ (oldest_row (at_tick now t).machine).c = omega (arith, early, ap {A = IssueRow} (λ r. r.c) (row-same t.machine now)) in
    let o = t.machine in
    let between : record o { now = now } ≡ machine_between_ticks o.delays o.levels o.state (interrupt o.state) o.issue now =
    ap {A = Overlap} (λ m. record m { now = now }) h.ready.between in
    assumption

module _ (left tick : ℕ) (snaps : List ℕ) (t new : Together) (before : IsBeforeEntry t) (rising : AreRising (t.machine.now - 1) snaps)
    (in_time : AreInTime (reported_events (timed_behind t.machine.delays t.machine.levels left (standing_of tick t) snaps))) where
  abbrev o : Overlap
  o = t.machine

  abbrev p : Standing
  p = standing_of tick t

  abbrev next : Moment
  next = next_moment o.delays o.levels p

  -- the next event is a snapshot
  shown-by : (xs : List ℕ) → AreRising (o.now - 1) xs
      → AreInTime (reported_events (timed_behind o.delays o.levels left p xs)) → AreMade (AreTicked None (slice_get xs 0)) t new → IsShown left tick xs new
  unfolding AreRising
  shown-by [] up all made = absurd made.ticked
  shown-by (x ∷ xs) up all made =
      let far : (oldest_row o).c < 2 ^ 63 = oldest-in_time left tick snaps t before in_time in
      let soon : x < (oldest_row o).c = made.ticked.0 in
      let is : new ≡ at_tick (x + 1) t = made.kept ∙ ap {A = Overlap} (λ q. record t { machine = q }) made.ticked.1 in
      subst {A = Together} (λ u. IsShown left tick (x ∷ xs) u) (sym is) (record {
        before = tick-before t (x + 1) before (omega arith);
        first = (refl, up.1);
        soon = omega arith;
        in_time = all;
      })

  pub go-shows : (snap : Option ℕ) → snap ≡ slice_get snaps 0 → AreMade (AreTicked None snap) t new → IsShown left tick snaps new
  go-shows snap first made =
      shown-by snaps rising in_time (subst {A = Option ℕ} (λ k. AreMade (AreTicked None k) t new) first made)

  -- the next event is the completion
  module _ (row : Row) (snap : Option ℕ) (first : snap ≡ slice_get snaps 0) (made : AreMade (AreTicked (Some row) snap) t new) where
    abbrev done : Together
    done = record t { machine = machine_after_completion (at_completion o) }

    new-done : new ≡ done
    new-done = made.kept ∙ ap {A = Overlap} (λ q. record t { machine = q }) made.ticked.1

    moment-is : moment_of done ≡ next
    moment-is = moment-next t tick before

    late : IfSome (slice_get snaps 0) (λ x. (oldest_row o).c ≤ x)
    late = subst {A = Option ℕ} (λ k. IfSome k (λ x. (oldest_row o).c ≤ x)) first made.ticked.0

    late-next : IfSome (slice_get snaps 0) (λ x. next.tick ≤ x)
    late-next = subst {A = ℕ} (λ k. IfSome (slice_get snaps 0) (λ x. k ≤ x)) (sym (next-tick left tick snaps t before in_time)) late

    all-told : reported_events (timed_behind o.delays o.levels left p snaps)
        ≡ timed_reported_event (completion o.delays o.levels p) ∷ reported_events (timed_from o.delays o.levels left next snaps)
    unfolding reported_events
    all-told = ap reported_events (behind-completes o.delays o.levels left p snaps late-next)

    row-c : row.c ≡ (oldest_row o).c
    row-c = ap {A = Row} (λ r. r.c) made.ticked.2

    done-left : IsLeft left snaps (oldest_row o).c done
    unfolding machine_after_completion
    done-left = record {
      behind = behind-next t before;
      tick_is = refl;
      soon = oldest-in_time left tick snaps t before in_time;
      rising = rising-first (o.now - 1) (oldest_row o).c snaps rising late;
      in_time =
          subst {A = Moment} (λ m. AreInTime (reported_events (timed_from o.delays o.levels left m snaps))) (sym moment-is)
          (All-tail (λ (y : TimedReportedEvent). (y.tick < 2 ^ 63) × (y.done < 2 ^ 63)) (timed_reported_event (completion o.delays o.levels p))
          (reported_events (timed_from o.delays o.levels left next snaps)) (subst {A = List TimedReportedEvent} AreInTime all-told in_time));
    }

    pub go-leaves : IsLeft left snaps row.c new
    go-leaves =
        subst {A = ℕ} (λ k. IsLeft left snaps k new) (sym row-c)
        (subst {A = Together} (λ u. IsLeft left snaps (oldest_row o).c u) (sym new-done) done-left)

    pub go-counts : row.number ≡ new.machine.state.done
    go-counts =
        ap {A = Row} (λ r. r.number) made.ticked.2
        ∙ sym (next-done left tick snaps t before in_time)
        ∙ ap {A = Moment} (λ m. m.scene.machine.done) (sym moment-is)
        ∙ ap {A = Together} (λ u. u.machine.state.done) (sym new-done)

    -- the reported form of the row
    abbrev told_row : Row → TimedReportedEvent
    told_row r = once r.number r.c (Done r.address r.p r.r r.c)

    row-told : told_row (row_done (at_completion o)) ≡ timed_reported_event (completion o.delays o.levels p)
    unfolding address
    row-told =
        let s = o.state in
        let rows : oldest_row o ≡ next_row o.delays o.levels p = row-before t tick before in
        let place : (plan s o.taken).place.address ≡ address s =
        ap {A = Option ℕ} (λ k. (plan s k).place.address) (ready-table o before.ready) ∙ plan-address s (interrupt s) in
        ap {A = IssueRow} (λ r. once (s.done + 1) (oldest_row o).c (Done (plan s o.taken).place.address r.p r.r (oldest_row o).c)) (row-same o (oldest_row o).c)
        ∙ ap {A = IssueRow} (λ r. once (s.done + 1) r.c (Done (plan s o.taken).place.address r.p r.r r.c)) rows
        ∙ ap {A = ℕ} (λ k. once (s.done + 1) (next_row o.delays o.levels p).c (Done k (next_row o.delays o.levels p).p
        (next_row o.delays o.levels p).r (next_row o.delays o.levels p).c)) place
        ∙ ap {A = ℕ} (λ k. once k (next_row o.delays o.levels p).c (Done (address s) (next_row o.delays o.levels p).p
        (next_row o.delays o.levels p).r (next_row o.delays o.levels p).c)) (sym (next-done left tick snaps t before in_time))
        ∙ ap {A = ℕ} (λ k. once next.scene.machine.done k (Done (address s) (next_row o.delays o.levels p).p
        (next_row o.delays o.levels p).r (next_row o.delays o.levels p).c))
        (ap {A = IssueRow} (λ r. r.c) (sym rows) ∙ sym (next-tick left tick snaps t before in_time))

    pub go-tells : (rest : List TimedReportedEvent)
        → reported_events (timed_from new.machine.delays new.machine.levels left (moment_of new) snaps) ≡ rest
        → reported_events (timed_behind o.delays o.levels left p snaps) ≡ told_row row ∷ rest
    unfolding machine_after_completion
    go-tells rest same =
        let behind : reported_events (timed_from o.delays o.levels left next snaps) ≡ rest =
        ap {A = Moment} (λ m. reported_events (timed_from o.delays o.levels left m snaps)) (sym moment-is)
        ∙ ap {A = Together} (λ u. reported_events (timed_from u.machine.delays u.machine.levels left (moment_of u) snaps)) (sym new-done)
        ∙ same in
        all-told
        ∙ ap {A = List TimedReportedEvent} (λ xs. timed_reported_event (completion o.delays o.levels p) ∷ xs) behind
        ∙ ap {A = TimedReportedEvent} (λ y. y ∷ rest) (sym row-told ∙ ap told_row (sym made.ticked.2))
