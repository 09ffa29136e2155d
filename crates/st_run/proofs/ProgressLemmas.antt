-- The progress of a run from one event to the next.
use Rattle.st_run.proofs.Common.{slice_get, map, reverse, if◌then◌else◌, IsSome, IfSome, ◌≡◌, ℕ, ◌+◌, ◌-◌, ◌<◌, ◌≤◌, ◌^◌, Bool, true, false, List, [], ◌∷◌, ◌++◌, Option, None, Some, refl, sym, ◌∙◌, ap, subst, length, arith, lt-ltb, le-ltb, All-nil, All-tail, Machine, index_words, interrupt, rests, Scene, IssueState, Ahead, prepared_before, split_words, has_ended, Overlap, state_ahead, oldest_row, levels_of, with_counter, last_tick_made, lent_index_words, Level, snapshot, level_at, with_index_words, next_row, entries_at_moment, next_moment, ticks_before, snapshot_at, timed_behind, AreRising, ReportedEvent, Dropped, Interrupted, Shown, TimedReportedEvent, timed_reported_event, reported_events, Printed, Together, scene_of, IsBeforeEntry, standing_of, reported_plain_event, interrupts_by, OutputQueue, queued_events, at_once, told_at_end, rest_of, rest_by, state_told, ahead_of, IsRun, AreInTime, IsShown, RunPhase, option_to_list}
use Rattle.st_run.specs.ReportedEvents.{Ended}
use Rattle.st_run.proofs.Turns.{behind-snapshot, same-words}
use Rattle.st_run.proofs.ReportedLemmas.{once}
use Rattle.st_run.proofs.MomentLemmas.{still, ready-still, row-before}
use Rattle.st_run.specs.declared.run_phase.RunPhase.TheVariants as turns

-- ---- no pending events

abbrev pub Quiet : OutputQueue → Type 0
Quiet w = (s : Machine) → queued_events w s ≡ []

not-end : (xs : List ReportedEvent) (x : ReportedEvent) → xs ++ x ∷ [] ≡ [] → ⊥
not-end [] x none = cc
not-end (y ∷ ys) x none = cc

quiet-by : (o : Option ℕ) (xs : List ReportedEvent) (s : Machine) → xs ++ map reported_plain_event (interrupts_by o s) ≡ [] → o ≡ None
quiet-by None xs s none = refl
quiet-by (Some i) xs s none = absurd (not-end xs (Interrupted i s) none)

none-some : (o : Option ℕ) (P : Type 0) → o ≡ None → IsSome o → P
none-some None P none some = absurd (cc some)
none-some (Some i) P none some = absurd (cc none)

-- without pending events no interrupt is pending
pub quiet-taken : (w : OutputQueue) (s : Machine) (P : Type 0) → Quiet w → IsSome w.taken → P
unfolding queued_events
quiet-taken w s P quiet some =
    none-some w.taken P
    (quiet-by w.taken (map (λ (d : ℕ × ℕ). Dropped d.0 d.1) (reverse w.drops) ++ map Printed (option_to_list w.text)) s (quiet s)) some

pub rest-quiet : (turn : RunPhase) (left tick : ℕ) (snaps : List ℕ) (w : OutputQueue) (t : Together) → Quiet w
    → rest_of turn left tick snaps w t ≡ rest_by turn left tick snaps t
unfolding rest_of
rest-quiet turn left tick snaps w t quiet =
    ap (λ (xs : List ReportedEvent). map (at_once tick t.machine.state) xs ++ rest_by turn left tick snaps t) (quiet t.machine.state)

-- ---- the state that is shown without entries in flight

index-seen : (ended : Bool) (h : Option ℕ) (s : Machine)
    → index_words (if ended then s else with_counter h s) ≡ index_words s
unfolding index_words
index-seen true h s = refl
index-seen false None s = refl
index-seen false (Some h) s = refl

pub seen-none : (o : Overlap) → levels_of o ≡ [] → state_told o ≡ o.state
unfolding lent_index_words split_words state_ahead
seen-none o none =
    ap (λ (xs : List Ahead). with_index_words (split_words (length xs) o.taken (state_ahead o)) o.state) none
    ∙ ap (λ (xs : List ℕ). with_index_words xs o.state) (index-seen (has_ended o.phase) o.mispredicted o.state)
    ∙ same-words o.state

pub ahead-none : (o : Overlap) → levels_of o ≡ [] → ahead_of o ≡ []
ahead-none o none = ap (map (level_at (last_tick_made o))) none

-- ---- a snapshot before the next entry

shown-still : (ds : List ℕ) (n : ℕ) (c : Scene) (f : IssueState) (tick x : ℕ)
    → timed_reported_event (snapshot_at ds n (record { scene = c; tick = tick; issue = f }) x)
    ≡ once c.machine.done tick
    (Shown x (state_told (still ds n c.machine f (x + 1))) (ahead_of (still ds n c.machine f (x + 1))))
unfolding snapshot lent_index_words levels_of state_ahead
shown-still ds n c f tick x =
    let same : x ≡ x + 1 - 1 = omega arith in
    let levels = prepared_before (x + 1) (entries_at_moment ds n (record { scene = c; tick = tick; issue = f })) in
    ap (λ (k : ℕ). once c.machine.done tick
    (Shown x (with_index_words (split_words (length levels) (interrupt c.machine) c.machine) c.machine) (map (level_at k) levels))) same

pub show-told : (left tick x : ℕ) (xs : List ℕ) (t : Together) → IsBeforeEntry t → t.machine.now ≡ x + 1
    → reported_events (timed_behind t.machine.delays t.machine.levels left (standing_of tick t) (x ∷ xs))
    ≡ at_once tick t.machine.state (Shown x (state_told t.machine) (ahead_of t.machine))
    ∷ reported_events (timed_behind t.machine.delays t.machine.levels left (standing_of tick t) xs)
unfolding reported_events next_moment
show-told left tick x xs t h now =
    let o = t.machine in
    let ds = o.delays in
    let n = o.levels in
    let p = standing_of tick t in
    let row : oldest_row o ≡ next_row ds n p = row-before t tick h in
    let early : x < (next_moment ds n p).tick = omega (arith, h.ready.early, now, ap (λ r. r.c) row) in
    let machine : o ≡ still ds n o.state o.issue (x + 1) =
    ready-still o h.ready ∙ ap {A = ℕ} (λ k. still ds n o.state o.issue k) now in
    ap reported_events (behind-snapshot ds n left p x xs early)
    ∙ ap (λ (y : TimedReportedEvent). y ∷ reported_events (timed_behind ds n left p xs))
    (shown-still ds n (scene_of t) o.issue tick x
    ∙ ap {A = Overlap} (λ q. once o.state.done tick (Shown x (state_told q) (ahead_of q))) (sym machine))

rising-same : (x now : ℕ) (xs : List ℕ) → now ≡ x + 1 → AreRising (x + 1) xs → AreRising (now - 1) xs
unfolding AreRising
rising-same x now [] same is = tt
rising-same x now (y ∷ ys) same is = (omega (arith, same, is.0), is.1)

-- the snapshot is returned and removed
module _ (left tick x : ℕ) (xs snaps : List ℕ) (w : OutputQueue) (t : Together) (turn : RunPhase)
    (first : snaps ≡ x ∷ xs) (shown : IsShown left tick snaps t) (before : turn ≡ turns.Before) (quiet : Quiet w) where
  shown_first : IsShown left tick (x ∷ xs) t
  shown_first = subst {A = List ℕ} (λ k. IsShown left tick k t) first shown

  pub show-tells : reported_events (timed_behind t.machine.delays t.machine.levels left (standing_of tick t) snaps)
      ≡ at_once tick t.machine.state (Shown x (state_told t.machine) (ahead_of t.machine)) ∷ rest_of turn left tick xs w t
  show-tells =
      let p = standing_of tick t in
      ap {A = List ℕ} (λ k. reported_events (timed_behind t.machine.delays t.machine.levels left p k)) first
      ∙ show-told left tick x xs t shown_first.before shown_first.first.0
      ∙ ap {A = List TimedReportedEvent} (λ rest. at_once tick t.machine.state (Shown x (state_told t.machine) (ahead_of t.machine)) ∷ rest)
      (sym (rest-quiet turns.Before left tick xs w t quiet)
      ∙ ap {A = RunPhase} (λ k. rest_of k left tick xs w t) (sym before))

  pub show-keeps : IsRun turn left tick xs w t
  show-keeps =
      let told_first = show-tells in
      let run : IsRun turns.Before left tick xs w t = record {
        stands = (shown.before, rising-same x t.machine.now xs shown_first.first.0 shown_first.first.1);
        taken = quiet-taken w t.machine.state (levels_of t.machine ≡ []) quiet;
        in_time =
            let all = subst {A = List TimedReportedEvent} AreInTime show-tells shown.in_time in
            subst {A = RunPhase} (λ k. AreInTime (rest_of k left tick xs w t)) before
            (All-tail (λ (y : TimedReportedEvent). (y.tick < 2 ^ 63) × (y.done < 2 ^ 63)) _ (rest_of turn left tick xs w t) all);
      } in
      subst {A = RunPhase} (λ k. IsRun k left tick xs w t) (sym before) run

-- ---- at the end

due-first : (rests : Bool) (tick x : ℕ) (xs : List ℕ) (s : Machine) → x ≤ tick
    → told_at_end rests tick (x ∷ xs) s ≡ at_once tick s (Shown x s []) ∷ told_at_end rests tick xs s
unfolding told_at_end ticks_before
due-first rests tick x xs s due = let soon : x < tick + 1 = omega arith in rw (lt-ltb x (tick + 1) soon) refl

due-none : (rests : Bool) (tick : ℕ) (snaps : List ℕ) (s : Machine) → IfSome (slice_get snaps 0) (λ x. tick < x)
    → told_at_end rests tick snaps s ≡ at_once tick s (Ended rests s) ∷ []
unfolding told_at_end ticks_before
due-none rests tick [] s late = refl
due-none rests tick (x ∷ xs) s late = let far : tick + 1 ≤ x = omega (arith, late) in rw (le-ltb x (tick + 1) far) refl

module _ (rests : Bool) (left tick : ℕ) (snaps : List ℕ) (w : OutputQueue) (t : Together)
    (none : levels_of t.machine ≡ []) (in_time : AreInTime (told_at_end rests tick snaps t.machine.state)) (quiet : Quiet w) where
  abbrev state : Machine
  state = t.machine.state

  pub end-tells : IfSome (slice_get snaps 0) (λ x. tick < x)
      → told_at_end rests tick snaps state
      ≡ at_once tick state (Ended rests (state_told t.machine)) ∷ rest_of turns.Over left tick snaps w t
  end-tells late =
      due-none rests tick snaps state late
      ∙ ap {A = Machine} (λ s. at_once tick state (Ended rests s) ∷ []) (sym (seen-none t.machine none))
      ∙ ap {A = List TimedReportedEvent} (λ rest. at_once tick state (Ended rests (state_told t.machine)) ∷ rest)
      (sym (rest-quiet turns.Over left tick snaps w t quiet))

  pub end-keeps : IsRun turns.Over left tick snaps w t
  end-keeps = record {
    stands = none;
    taken = quiet-taken w state (levels_of t.machine ≡ []) quiet;
    in_time = subst {A = List TimedReportedEvent} AreInTime (sym (rest-quiet turns.Over left tick snaps w t quiet)) (All-nil _);
  }

  module _ (x : ℕ) (xs : List ℕ) (turn : RunPhase) (first : snaps ≡ x ∷ xs) (due : x ≤ tick) (at_end : turn ≡ turns.AtEnd rests) where
    pub last-tells : told_at_end rests tick snaps state
        ≡ at_once tick state (Shown x (state_told t.machine) (ahead_of t.machine)) ∷ rest_of turn left tick xs w t
    last-tells =
        ap {A = List ℕ} (λ k. told_at_end rests tick k state) first
        ∙ due-first rests tick x xs state due
        ∙ ap {A = Machine} (λ s. at_once tick state (Shown x s []) ∷ told_at_end rests tick xs state) (sym (seen-none t.machine none))
        ∙ ap {A = List Level} (λ ls. at_once tick state (Shown x (state_told t.machine) ls) ∷ told_at_end rests tick xs state)
        (sym (ahead-none t.machine none))
        ∙ ap {A = List TimedReportedEvent} (λ rest. at_once tick state (Shown x (state_told t.machine) (ahead_of t.machine)) ∷ rest)
        (sym (rest-quiet (turns.AtEnd rests) left tick xs w t quiet)
        ∙ ap {A = RunPhase} (λ k. rest_of k left tick xs w t) (sym at_end))

    pub last-keeps : IsRun turn left tick xs w t
    last-keeps =
        let all = subst {A = List TimedReportedEvent} AreInTime last-tells in_time in
        subst {A = RunPhase} (λ k. IsRun k left tick xs w t) (sym at_end) (record {
          stands = none;
          taken = quiet-taken w state (levels_of t.machine ≡ []) quiet;
          in_time =
              subst {A = RunPhase} (λ k. AreInTime (rest_of k left tick xs w t)) at_end
              (All-tail (λ (y : TimedReportedEvent). (y.tick < 2 ^ 63) × (y.done < 2 ^ 63)) _ (rest_of turn left tick xs w t) all);
        })
