-- Successive completions without external events between them.
use Rattle.st_run.proofs.Common.{nat_le, MatchOption, ◌≡◌, ◌≢◌, ℕ, zero, suc, ◌+◌, ◌-◌, ◌<◌, ◌≤◌, Bool, true, false, List, [], ◌∷◌, ◌++◌, Option, None, Some, refl, sym, ◌∙◌, ap, subst, arith, length-append, nat_tests, Machine, Overlap, is_done, row_done, machine_after_completion, machine_after_tick, machine_after_pass, machine_after_settling, answer, after_ticks, may_come_from_outside, IsPassed, ArePassed, RunsTo, Queue, queue_with, rows_in_ticks, Row, queue-shut, row-one, row-late, rows-first, no-rows, queue-all, Moment, timed_from, timed_behind, AreRising, TimedReportedEvent, reported_events, is_quiet, order_is_due, IsDecided, nothing_decided, Together, IsBeforeEntry, standing_of, moment_of, OutputQueue, queued_events, row_told, rows_then, AreLeftOut, HasGoneFar, IsLeft, IsRun, AreInTime, rest_of, AreMade, AreTicked, at_completion, last_for, signal_due, or_parts}
use Rattle.std.specs.Prelude.{length}
use Rattle.st_ahead.specs.declared.events.Settled.TheVariants.{Goes}
use Rattle.st_ahead.proofs.Runs.{goes-quiet}
use Rattle.st_run.proofs.TickLemmas.{tick-passes, tick-early, tick-done, done-completed}
use Rattle.st_run.proofs.MomentLemmas.{moment-next}
use Rattle.st_run.proofs.PartLemmas.{HasParts}
use Rattle.st_run.proofs.LeftLemmas.{waits, left-told, left-keeps, oldest-in_time, next-done}
use Rattle.st_run.proofs.ProgressLemmas.{rest-quiet}
use Rattle.st_run.proofs.QuietLemmas.{none-quiet, quiet-settled, passed-decided, passed-parts}
use Rattle.st_run.proofs.GoLemmas.{tick-before, go-leaves, go-tells}
use Rattle.st_run.specs.declared.run_phase.RunPhase.TheVariants as turns

-- the remaining events before the next entry
abbrev rest_told : ℕ → ℕ → Together → List TimedReportedEvent
rest_told left tick t = reported_events (timed_behind t.machine.delays t.machine.levels left (standing_of tick t) [])

rising-none : (k : ℕ) → AreRising k []
unfolding AreRising
rising-none k = tt

-- ---- no external event after an entry

fewer : (count done : ℕ) → nat_le count done ≡ false → done < count
fewer count done test = grind (arith, nat_tests)

-- ---- one entry

-- the events of two lists of rows
rows-both : (xs ys : List Row) (rest : List TimedReportedEvent) → rows_then (xs ++ ys) rest ≡ rows_then xs (rows_then ys rest)
rows-both [] ys rest = refl
rows-both (x ∷ xs) ys rest = ap (λ (more : List TimedReportedEvent). row_told x ∷ more) (rows-both xs ys rest)

-- entries completed in k ticks without external events between them, fewer than `count` in all, and
-- left the machine `new`
pub record PassedTo (count left tick k : ℕ) (t : Together) (new : Overlap) : Type 0 where
  pub left_now : ℕ
  pub tick_now : ℕ
  pub before : IsBeforeEntry (record t { machine = new })
  pub in_time : AreInTime (rest_told left_now tick_now (record t { machine = new }))
  pub tells : rest_told left tick t ≡ rows_then (rows_in_ticks k t.machine) (rest_told left_now tick_now (record t { machine = new }))
  pub number : left_now + new.state.done ≡ left + t.machine.state.done
  pub fewer : left_now + length (rows_in_ticks k t.machine) ≡ left
  pub short : length (rows_in_ticks k t.machine) ≤ count - t.machine.state.done - 1
  pub now : new.now ≡ t.machine.now + k

-- the next entry completes at this tick
module _ (left tick : ℕ) (t : Together) (before : IsBeforeEntry t) (in_time : AreInTime (rest_told left tick t)) (due : is_done t.machine ≡ true) where
  abbrev o : Overlap
  o = t.machine

  at_end : o ≡ at_completion o
  at_end = ap {A = ℕ} (λ k. record o { now = k }) (tick-done o o o.now refl due)

  abbrev behind : Together
  behind = record t { machine = machine_after_completion (at_completion o) }

  ticked-is : machine_after_tick o ≡ machine_after_completion (at_completion o)
  ticked-is = done-completed o o o.now refl due ∙ ap {A = Overlap} machine_after_completion at_end

  made : AreMade (AreTicked (Some (row_done o)) None) t behind
  made = record { ticked = (tt, refl, ap {A = Overlap} row_done at_end); kept = refl }

  pub one-left : IsLeft left [] (row_done o).c behind
  one-left =
      go-leaves left tick [] t behind before (rising-none (o.now - 1)) in_time (row_done o) None refl made

  pub one-told : (rest : List TimedReportedEvent) → reported_events (timed_from behind.machine.delays behind.machine.levels left (moment_of behind) []) ≡ rest
      → rest_told left tick t ≡ row_told (row_done o) ∷ rest
  unfolding machine_after_completion
  one-told rest same =
      go-tells left tick [] t behind before (rising-none (o.now - 1)) in_time (row_done o) None refl made rest same

  one-done : (machine_after_completion (at_completion o)).state.done ≡ o.state.done + 1
  one-done = ap {A = Moment} (λ m. m.scene.machine.done) (moment-next t tick before) ∙ next-done left tick [] t before in_time

  -- the next entry completes at this tick and the run continues at once
  module _ (count : ℕ) (passes : IsPassed count o) (few : count ≤ o.state.done + left + 1)
      (signals : (d : ℕ) → d < count → signal_due d t.signals ≡ false) where
    abbrev m : Overlap
    m = machine_after_completion (at_completion o)

    abbrev next : Together
    next = record t { machine = machine_after_settling (machine_after_tick o) }

    none : may_come_from_outside count m.state ≡ false
    none = subst {A = Overlap} (λ x. may_come_from_outside count x.state ≡ false) ticked-is (passes.nothing due)

    both : (nat_le count m.state.done ≡ false) × (order_is_due m.state ≡ false)
    both = or_parts (nat_le count m.state.done) (order_is_due m.state) none

    quiet : is_quiet m ≡ true
    quiet = goes-quiet m (subst {A = Overlap} (λ x. answer x ≡ Goes) ticked-is passes.goes) both.1

    below : m.state.done < count
    below = fewer count m.state.done both.0

    some : left ≢ 0
    some zero_left = omega (arith, zero_left, below, few, one-done)

    after : machine_after_settling (machine_after_tick o) ≡ machine_after_pass m
    after = ap {A = Overlap} machine_after_settling ticked-is ∙ sym (quiet-settled m quiet)

    decided : IsDecided left (moment_of behind) nothing_decided next
    decided =
        passed-decided left behind m (machine_after_settling (machine_after_tick o)) t.signals t.cards refl one-left.behind some m.state.done refl (signals m.state.done below) quiet after

    parts : HasParts m (machine_after_settling (machine_after_tick o))
    parts = passed-parts left behind m (machine_after_settling (machine_after_tick o)) t.signals t.cards refl one-left.behind some m.state.done refl (signals m.state.done below) quiet after

    keeps : IsRun turns.Before (left - 1) (row_done o).c [] (waits [] None None) next
    keeps = left-keeps left (row_done o).c [] behind next nothing_decided [] one-left decided parts.delays parts.levels refl

    rest-is : rest_of turns.Before (left - 1) (row_done o).c [] (waits [] None None) next ≡ rest_told (left - 1) (row_done o).c next
    rest-is = rest-quiet turns.Before (left - 1) (row_done o).c [] (waits [] None None) next none-quiet

    some-left : 1 ≤ left
    some-left = omega (arith, below, few, one-done)

    now-is : (machine_after_settling (machine_after_tick o)).now ≡ o.now + 1
    now-is = let g = decided.way.2 in g.now ∙ ap {A = ℕ} (λ k. k + 1) (sym one-left.tick_is)

    one-row : rows_in_ticks 1 o ≡ row_done o ∷ []
    one-row = row-one o due

    pub one-passed : PassedTo count left tick 1 t (machine_after_settling (machine_after_tick o))
    one-passed = record {
      left_now = left - 1;
      tick_now = (row_done o).c;
      before = keeps.stands.0;
      in_time = subst {A = List TimedReportedEvent} AreInTime rest-is keeps.in_time;
      tells =
          one-told (rest_told (left - 1) (row_done o).c next)
          (left-told left (row_done o).c [] behind next nothing_decided [] one-left decided parts.delays parts.levels refl ∙ rest-is)
          ∙ ap {A = List Row} (λ xs. rows_then xs (rest_told (left - 1) (row_done o).c next)) (sym one-row);
      fewer = omega (arith, some-left, ap {A = List Row} (λ xs. length xs) one-row);
      short = omega (arith, below, one-done, ap {A = List Row} (λ xs. length xs) one-row);
      number = omega (arith, one-done, some-left, ap (λ (x : Overlap). x.state.done) after);
      now = omega (arith, now-is);
    }

-- one more tick
pub tick-passed : (count left tick : ℕ) (t : Together) → IsBeforeEntry t → AreInTime (rest_told left tick t) → count ≤ t.machine.state.done + left + 1
    → ((d : ℕ) → d < count → signal_due d t.signals ≡ false) → IsPassed count t.machine → PassedTo count left tick 1 t (machine_after_settling (machine_after_tick t.machine))
tick-passed count left tick t before in_time few signals passes = by (is_done t.machine) refl
  where
    by : (b : Bool) → is_done t.machine ≡ b → PassedTo count left tick 1 t (machine_after_settling (machine_after_tick t.machine))
    by true due = one-passed left tick t before in_time due count passes few signals
    by false late =
        let o = t.machine in
        let next = tick-passes o o o.now before.ready refl late in
        subst {A = Overlap} (λ m. PassedTo count left tick 1 t m) (sym next) (record {
          left_now = left;
          tick_now = tick;
          before = tick-before t (o.now + 1) before (tick-early o o o.now before.ready.early refl late);
          in_time = in_time;
          tells = ap {A = List Row} (λ xs. rows_then xs (rest_told left tick t)) (sym (row-late o late));
          number = refl;
          fewer = omega (arith, ap {A = List Row} (λ xs. length xs) (row-late o late));
          short = omega (arith, ap {A = List Row} (λ xs. length xs) (row-late o late));
          now = refl;
        })

-- several more ticks
pub all-passed : (k count left tick : ℕ) (t : Together) (new : Overlap) → IsBeforeEntry t → AreInTime (rest_told left tick t)
    → count ≤ t.machine.state.done + left + 1 → ((d : ℕ) → d < count → signal_due d t.signals ≡ false)
    → ArePassed count k t.machine new → PassedTo count left tick k t new
unfolding after_ticks
all-passed zero count left tick t new before in_time few signals are =
    subst {A = Overlap} (λ m. PassedTo count left tick 0 t m) (sym are.after) (record {
      left_now = left;
      tick_now = tick;
      before = before;
      in_time = in_time;
      tells = ap {A = List Row} (λ xs. rows_then xs (rest_told left tick t)) (sym (no-rows t.machine));
      number = refl;
      fewer = omega (arith, ap {A = List Row} (λ xs. length xs) (no-rows t.machine));
      short = omega (arith, ap {A = List Row} (λ xs. length xs) (no-rows t.machine));
      now = omega arith;
    })
all-passed (suc k) count left tick t new before in_time few signals are =
    let first = tick-passed count left tick t before in_time few signals (are.each 0 (omega arith)) in
    let next : Together = record t { machine = machine_after_settling (machine_after_tick t.machine) } in
    let more : ArePassed count k next.machine new = record { each = λ i early. are.each (suc i) (omega (arith, early)); after = are.after } in
    let rest = all-passed k count first.left_now first.tick_now next new first.before first.in_time (omega (arith, few, first.number)) signals more in
    let these = rows_in_ticks 1 t.machine in
    let those = rows_in_ticks k next.machine in
    let all : rows_in_ticks (suc k) t.machine ≡ these ++ those = rows-first k t.machine in
    let many = ap {A = List Row} (λ xs. length xs) all ∙ length-append these those in
    record {
      left_now = rest.left_now;
      tick_now = rest.tick_now;
      before = rest.before;
      in_time = rest.in_time;
      tells =
          first.tells ∙ ap {A = List TimedReportedEvent} (λ xs. rows_then these xs) rest.tells
          ∙ sym (rows-both these those (rest_told rest.left_now rest.tick_now (record t { machine = new })))
          ∙ ap {A = List Row} (λ xs. rows_then xs (rest_told rest.left_now rest.tick_now (record t { machine = new }))) (sym all);
      number = rest.number ∙ first.number;
      fewer = omega (arith, rest.fewer, first.fewer, many);
      short = omega (arith, rest.short, first.short, first.number, first.fewer, many);
      now = omega (arith, rest.now, first.now);
    }

-- ---- up to an entry after which an external event is possible

pub record PassedUpTo (count left tick : ℕ) (t new : Together) (row : Row) : Type 0 where
  pub left_now : ℕ
  pub number : left_now + row.number ≡ left + t.machine.state.done + 1
  pub more : t.machine.state.done + 1 ≤ row.number
  pub counted : row.number ≡ new.machine.state.done
  pub leaves : IsLeft left_now [] row.c new
  pub tells : (rest : List TimedReportedEvent) → reported_events (timed_from new.machine.delays new.machine.levels left_now (moment_of new) []) ≡ rest
      → rest_told left tick t ≡ rows_then (rows_in_ticks (row.c - t.machine.now) t.machine) (row_told row ∷ rest)
  pub short : length (rows_in_ticks (row.c - t.machine.now) t.machine) ≤ count - t.machine.state.done - 1

module _ (count left tick : ℕ) (t new : Together) (before : IsBeforeEntry t) (in_time : AreInTime (rest_told left tick t))
    (few : count ≤ t.machine.state.done + left + 1) (signals : (d : ℕ) → d < count → signal_due d t.signals ≡ false) where
  pub passed-row : (row : Row) → AreMade (RunsTo count (last_for None) (Some row)) t new → PassedUpTo count left tick t new row
  passed-row row made =
      let stop = made.ticked in
      let all = all-passed stop.ticks count left tick t stop.before before in_time few signals stop.passed in
      let here : Together = record t { machine = stop.before } in
      let behind : Together = record t { machine = machine_after_completion (at_completion stop.before) } in
      let is : new ≡ behind =
      made.kept ∙ ap {A = Overlap} (λ m. record t { machine = m }) (stop.after ∙ ticked-is all.left_now all.tick_now here all.before all.in_time stop.done) in
      let row_is : row ≡ row_done stop.before = stop.row_is in
      let ticks : stop.ticks ≡ row.c - t.machine.now = omega (arith, all.now, ap (λ (r : Row). r.c) row_is) in
      record {
        left_now = all.left_now;
        number = omega (arith, all.number, ap (λ (r : Row). r.number) row_is);
        more = omega (arith, all.number, ap (λ (r : Row). r.number) row_is, all.fewer);
        counted =
            ap (λ (r : Row). r.number) row_is
            ∙ sym (one-done all.left_now all.tick_now here all.before all.in_time stop.done)
            ∙ ap {A = Together} (λ u. u.machine.state.done) (sym is);
        leaves =
            subst {A = Row} (λ r. IsLeft all.left_now [] r.c new) (sym row_is)
            (subst {A = Together} (λ u. IsLeft all.left_now [] (row_done stop.before).c u) (sym is)
            (one-left all.left_now all.tick_now here all.before all.in_time stop.done));
        short = subst {A = ℕ} (λ k. length (rows_in_ticks k t.machine) ≤ count - t.machine.state.done - 1) ticks all.short;
        tells = λ rest same.
            all.tells
            ∙ ap {A = List TimedReportedEvent} (λ xs. rows_then (rows_in_ticks stop.ticks t.machine) xs)
            (one-told all.left_now all.tick_now here all.before all.in_time stop.done rest
            (ap {A = Together} (λ u. reported_events (timed_from u.machine.delays u.machine.levels all.left_now (moment_of u) [])) (sym is) ∙ same)
            ∙ ap {A = Row} (λ r. row_told r ∷ rest) (sym row_is))
            ∙ ap {A = ℕ} (λ k. rows_then (rows_in_ticks k t.machine) (row_told row ∷ rest)) ticks;
      }

  -- each entry completes before the last tick
  pub passed-none : AreMade (RunsTo count (last_for None) None) t new → ⊥
  passed-none made =
      let o = t.machine in
      let all = all-passed (last_for None + 1 - o.now) count left tick t new.machine before in_time few signals made.ticked in
      let far = oldest-in_time left tick [] t before in_time in
      let late = oldest-in_time all.left_now all.tick_now [] (record t { machine = new.machine }) all.before all.in_time in
      omega (arith, far, late, before.ready.early, all.before.ready.early, all.now)

-- ---- runs without pending events and without remaining snapshots

pub record AreAhead (left tick : ℕ) (t : Together) : Type 0 where
  pub before : IsBeforeEntry t
  pub in_time : AreInTime (rest_told left tick t)

pub ahead-is : (left tick : ℕ) (snaps : List ℕ) (w : OutputQueue) (t : Together) → IsRun turns.Before left tick snaps w t
    → ((s : Machine) → queued_events w s ≡ []) → snaps ≡ [] → AreAhead left tick t
ahead-is left tick snaps w t is quiet none = record {
  before = is.stands.0;
  in_time =
      subst {A = List ℕ} (λ xs. AreInTime (reported_events (timed_behind t.machine.delays t.machine.levels left (standing_of tick t) xs))) none
      (subst {A = List TimedReportedEvent} AreInTime (rest-quiet turns.Before left tick snaps w t quiet) is.in_time);
}

pub far-row : (count left tick : ℕ) (t new : Together) → AreAhead left tick t → count ≤ t.machine.state.done + left + 1
    → ((d : ℕ) → d < count → signal_due d t.signals ≡ false) → (row : Row) → AreMade (RunsTo count (last_for None) (Some row)) t new → PassedUpTo count left tick t new row
far-row count left tick t new is few signals row made = passed-row count left tick t new is.before is.in_time few signals row made

pub far-none : (count left tick : ℕ) (t new : Together) → AreAhead left tick t → count ≤ t.machine.state.done + left + 1
    → ((d : ℕ) → d < count → signal_due d t.signals ≡ false) → AreMade (RunsTo count (last_for None) None) t new → ⊥
far-none count left tick t new is few signals made = passed-none count left tick t new is.before is.in_time few signals made

module _ (count left tick : ℕ) (snaps : List ℕ) (t new : Together) (row : Row) (far : PassedUpTo count left tick t new row) (k : ℕ) (same : far.left_now ≡ k)
    (none : snaps ≡ []) where
  pub far-left : IsLeft k snaps row.c new
  far-left =
      subst {A = List ℕ} (λ xs. IsLeft k xs row.c new) (sym none) (subst {A = ℕ} (λ x. IsLeft x [] row.c new) same far.leaves)

  pub far-told : (done most : ℕ) (rest : List TimedReportedEvent) (before after : Queue) → done ≡ t.machine.state.done → count ≤ most
      → reported_events (timed_from new.machine.delays new.machine.levels k (moment_of new) snaps) ≡ rest
      → after ≡ queue_with (rows_in_ticks (row.c - t.machine.now) t.machine) before
      → HasGoneFar done most row
      (reported_events (timed_behind t.machine.delays t.machine.levels left (standing_of tick t) snaps)) rest before after
  far-told done most rest before after are few tells waits = record {
    out = record {
      passed = rows_in_ticks (row.c - t.machine.now) t.machine;
      rest = ap {A = List ℕ} (λ xs. reported_events (timed_behind t.machine.delays t.machine.levels left (standing_of tick t) xs)) none
          ∙ far.tells rest
          (ap {A = ℕ} (λ x. reported_events (timed_from new.machine.delays new.machine.levels x (moment_of new) [])) same
          ∙ ap {A = List ℕ} (λ xs. reported_events (timed_from new.machine.delays new.machine.levels k (moment_of new) xs)) (sym none) ∙ tells);
    };
    waits = waits;
    few = omega (arith, far.short, are, few);
  }

-- the skipped rows if the queue has no room
pub far-passed : (row : Row) (done most : ℕ) (all old new : List TimedReportedEvent) (before next : Queue) → all ≡ old → before.room ≡ 0
    → HasGoneFar done most row old new before next
    → (next ≡ before) × AreLeftOut row all new
far-passed row done most all old new before next same shut far =
    (far.waits ∙ queue-shut _ before shut, record { passed = far.out.passed; rest = same ∙ far.out.rest })

-- the queued rows if the queue has room
pub far-waits : (done : ℕ) (row : Row) (old new : List TimedReportedEvent) (before after : Queue) → HasGoneFar done (done + 64) row old new before after
    → before ≡ record { rows = []; room = 64 } → old ≡ rows_then (queue_with (row ∷ []) after).rows new
far-waits done row old new before after far empty =
    let few : length far.out.passed ≤ 63 = omega (arith, far.few) in
    let mid : after ≡ record { rows = far.out.passed; room = 64 - length far.out.passed } =
    far.waits ∙ ap {A = Queue} (queue_with far.out.passed) empty ∙ queue-all far.out.passed (record { rows = []; room = 64 }) (omega (arith, few)) in
    let end : queue_with (row ∷ []) after ≡ record { rows = far.out.passed ++ row ∷ []; room = 64 - length far.out.passed - 1 } =
    ap {A = Queue} (queue_with (row ∷ [])) mid ∙ queue-all (row ∷ []) (record { rows = far.out.passed; room = 64 - length far.out.passed }) (omega (arith, few)) in
    far.out.rest ∙ sym (rows-both far.out.passed (row ∷ []) new) ∙ ap {A = Queue} (λ q. rows_then q.rows new) (sym end)
