-- The events after the completion of an entry, and the continuation of the run.
use Rattle.st_run.proofs.Common.{map, is_some, if◌then◌else◌, IsSome, option_map, ◌≡◌, ℕ, ◌+◌, ◌-◌, ◌<◌, ◌^◌, Bool, true, false, List, [], ◌∷◌, ◌++◌, Option, None, refl, sym, ◌∙◌, ap, subst, arith, Machine, interrupt, rests, Scene, interlude, step-done, IssueState, prepared_before, state_ahead, oldest_row, levels_of, Moment, Standing, next_scene, next_state, ends_segment, has_card, has_waited, standing_at, entries_at_moment, next_moment, snapshots_from, events_between, last_events, timed_from, timed_behind, AreRising, TimedReportedEvent, reported_events, Together, scene_of, IsBeforeEntry, standing_of, moment_of, AreTexts, OutputQueue, queued_events, at_once, told_at_end, rest_of, IsTurn, IsRun, AreInTime, IsLeft, IsDecided, RunGoesOn, Decided, RunPhase}
use Rattle.std.specs.Prelude.{◌||◌, ◌≢◌}
use Rattle.st_run.proofs.CourseLemmas.{rising-to-come}
use Rattle.st_run.proofs.Turns.{timed-rests, timed-budget, timed-goes_on, nothing-ahead}
use Rattle.st_run.proofs.ReportedLemmas.{told-append, dropped_at, told-between, told-last, told-completion}
use Rattle.st_run.proofs.MomentLemmas.{still, ready-still, row-before}
use Rattle.st_run.proofs.ChoiceLemmas.{IsWay}
use Rattle.st_run.specs.declared.run_phase.RunPhase.TheVariants as turns

-- ---- the run ends or continues

ends-here : (ds : List ℕ) (n left : ℕ) (m : Moment) (snaps : List ℕ) (b : Bool) → snapshots_from m.tick snaps ≡ snaps → b ≡ rests (next_state m) → (b ≡ false → left ≡ 0)
    → timed_from ds n left m snaps ≡ last_events m snaps
ends-here ds n left m snaps true come resting none = timed-rests ds n left m snaps come (sym resting)
ends-here ds n left m snaps false come resting none = timed-budget ds n left m snaps come (none refl)

-- the flushed entries, if the segment ends
abbrev dropped_if : Bool → Moment → List (ℕ × ℕ)
dropped_if ends m = if ends then map dropped_at m.dropped else []

-- the pending events from their parts
abbrev pub waits : List (ℕ × ℕ) → Option (List ℕ) → Option ℕ → OutputQueue
waits drops text table = record { drops = drops; text = text; taken = table }

-- the pending events by the decision
abbrev pub waits_by : List (ℕ × ℕ) → Decided → OutputQueue
waits_by drops d = waits drops (option_map (λ x. x.bytes) d.text) d.taken

module _ (ds : List ℕ) (n left tick : ℕ) (m : Moment) (snaps : List ℕ) (d : Decided) (drops : List (ℕ × ℕ)) (t : Together)
    (text : AreTexts (option_map (λ x. x.bytes) d.text) (interlude m.scene).happened)
    (tick_is : tick ≡ m.tick) (delays : t.machine.delays ≡ ds) (levels : t.machine.levels ≡ n)
    (dropped : drops ≡ dropped_if d.ends m) (come : snapshots_from m.tick snaps ≡ snaps) where
  abbrev printed : Option (List ℕ)
  printed = option_map (λ x. x.bytes) d.text

  goes-told : left ≢ 0 → rests (next_state m) ≡ false → RunGoesOn m d t
      → reported_events (timed_from ds n left m snaps) ≡ rest_of turns.Before (left - 1) tick snaps (waits drops printed d.taken) t
  unfolding rest_of
  goes-told some awake g =
      let s = next_state m in
      let p = standing_at m in
      let k = left - 1 in
      let rest = reported_events (timed_behind ds n k p snaps) in
      let state : s ≡ t.machine.state = ap {A = Standing} (λ q. q.scene.machine) (sym g.standing) in
      let waiting : waits (dropped_if (ends_segment m) m) printed (interrupt s) ≡ waits drops printed d.taken =
      ap {A = Bool} (λ b. waits (dropped_if b m) printed (interrupt s)) (sym g.ends)
      ∙ ap {A = List (ℕ × ℕ)} (λ xs. waits xs printed (interrupt s)) (sym dropped)
      ∙ ap {A = Option ℕ} (λ o. waits drops printed o) (sym g.taken) in
      let stand : p ≡ standing_of tick t =
      sym g.standing ∙ ap {A = ℕ} (λ x. standing_of x t) (sym tick_is) in
      ap reported_events (timed-goes_on ds n left m snaps come some awake)
      ∙ told-append (events_between m) (timed_behind ds n k p snaps)
      ∙ ap {A = List TimedReportedEvent} (λ xs. xs ++ rest) (told-between m printed text)
      ∙ ap {A = OutputQueue} (λ w. map (at_once m.tick s) (queued_events w s) ++ rest) waiting
      ∙ ap {A = Machine} (λ u. map (at_once m.tick u) (queued_events (waits drops printed d.taken) u) ++ rest) state
      ∙ ap {A = ℕ} (λ x. map (at_once x t.machine.state) (queued_events (waits drops printed d.taken) t.machine.state) ++ rest) (sym tick_is)
      ∙ ap {A = List TimedReportedEvent} (λ xs. map (at_once tick t.machine.state) (queued_events (waits drops printed d.taken) t.machine.state) ++ xs)
      (ap {A = Standing} (λ q. reported_events (timed_behind ds n k q snaps)) stand
      ∙ ap {A = List ℕ} (λ es. reported_events (timed_behind es n k (standing_of tick t) snaps)) (sym delays)
      ∙ ap {A = ℕ} (λ l. reported_events (timed_behind t.machine.delays l k (standing_of tick t) snaps)) (sym levels))

  stops-told : (resting : Bool) → resting ≡ rests (next_state m) → (resting ≡ false → left ≡ 0) → d.ends ≡ true → d.taken ≡ None
      → scene_of t ≡ next_scene m
      → reported_events (timed_from ds n left m snaps) ≡ rest_of (turns.AtEnd resting) (left - 1) tick snaps (waits drops printed d.taken) t
  unfolding rest_of
  stops-told resting same none ends void g =
      let s = next_state m in
      let state : s ≡ t.machine.state = ap {A = Scene} (λ c. c.machine) (sym g) in
      let waiting : waits (map dropped_at m.dropped) printed None ≡ waits drops printed d.taken =
      ap {A = Bool} (λ b. waits (dropped_if b m) printed None) (sym ends)
      ∙ ap {A = List (ℕ × ℕ)} (λ xs. waits xs printed None) (sym dropped)
      ∙ ap {A = Option ℕ} (λ o. waits drops printed o) (sym void) in
      ap reported_events (ends-here ds n left m snaps resting come same none)
      ∙ told-last m printed snaps text
      ∙ ap {A = OutputQueue} (λ w. map (at_once m.tick s) (queued_events w s) ++ told_at_end (rests s) m.tick snaps s) waiting
      ∙ ap {A = Bool} (λ b. map (at_once m.tick s) (queued_events (waits drops printed d.taken) s) ++ told_at_end b m.tick snaps s) (sym same)
      ∙ ap {A = Machine} (λ u. map (at_once m.tick u) (queued_events (waits drops printed d.taken) u) ++ told_at_end resting m.tick snaps u) state
      ∙ ap {A = ℕ} (λ x. map (at_once x t.machine.state) (queued_events (waits drops printed d.taken) t.machine.state)
      ++ told_at_end resting x snaps t.machine.state) (sym tick_is)

  way-told : (turn : RunPhase) → IsWay turn left m d t
      → reported_events (timed_from ds n left m snaps) ≡ rest_of turn (left - 1) tick snaps (waits drops printed d.taken) t
  way-told turns.Before way = goes-told way.0 way.1 way.2
  way-told (turns.AtEnd resting) way = stops-told resting way.0 way.1 way.2 way.3 way.4.0
  way-told turns.Over way = absurd way

  -- ---- the invariant of the run after the entry

  or-true : (b : Bool) → (b || true) ≡ true
  or-true true = refl
  or-true false = refl

  ends-taken : is_some (interrupt (next_state m)) ≡ true → ends_segment m ≡ true
  unfolding ends_segment
  ends-taken some = ap {A = Bool} (λ b. m.mispredicted || has_card m || has_waited m || b) some ∙ or-true (m.mispredicted || has_card m || has_waited m)

  levels-still : (es : List ℕ) (l : ℕ) (c : Scene) (f : IssueState) (x now : ℕ)
      → levels_of (still es l c.machine f now)
      ≡ prepared_before now (entries_at_moment es l (record { scene = c; tick = x; issue = f }))
  unfolding levels_of state_ahead
  levels-still es l c f x now = refl

  none-ahead : RunGoesOn m d t → IsSome d.taken → levels_of t.machine ≡ []
  none-ahead g some =
      let o = t.machine in
      let taken : is_some (interrupt (next_state m)) ≡ true = ap is_some (sym g.taken) ∙ some in
      ap levels_of (ready-still o g.before.ready)
      ∙ levels-still o.delays o.levels (scene_of t) o.issue m.tick o.now
      ∙ ap {A = ℕ} (λ k. prepared_before k (entries_at_moment o.delays o.levels (standing_of m.tick t))) g.now
      ∙ ap {A = Standing} (λ p. prepared_before (m.tick + 1) (entries_at_moment o.delays o.levels p)) g.standing
      ∙ nothing-ahead o.delays o.levels m m.tick (ends-taken taken) (omega arith)

  rising-on : (now : ℕ) (xs : List ℕ) → now ≡ tick + 1 → AreRising tick xs → AreRising (now - 1) xs
  unfolding AreRising
  rising-on now [] same is = tt
  rising-on now (x ∷ xs) same is = (omega (arith, same, is.0), is.1)

  way-stands : (turn : RunPhase) → IsWay turn left m d t → AreRising tick snaps → IsTurn turn snaps t
  way-stands turns.Before way rising =
      let g : RunGoesOn m d t = way.2 in
      (g.before, rising-on t.machine.now snaps (g.now ∙ ap {A = ℕ} (λ x. x + 1) (sym tick_is)) rising)
  way-stands (turns.AtEnd resting) way rising = way.4.1
  way-stands turns.Over way rising = absurd way

  way-taken : (turn : RunPhase) → IsWay turn left m d t → IsSome d.taken → levels_of t.machine ≡ []
  way-taken turns.Before way some = none-ahead way.2 some
  way-taken (turns.AtEnd resting) way some = way.4.1
  way-taken turns.Over way some = absurd way

-- the obligations of the call that leaves an entry
module _ (left tick : ℕ) (snaps : List ℕ) (old t : Together) (d : Decided) (drops : List (ℕ × ℕ))
    (is : IsLeft left snaps tick old) (decided : IsDecided left (moment_of old) d t)
    (delays : t.machine.delays ≡ old.machine.delays) (levels : t.machine.levels ≡ old.machine.levels)
    (dropped : drops ≡ (if d.ends then map dropped_at (levels_of old.machine) else [])) where
  to-come : snapshots_from (moment_of old).tick snaps ≡ snaps
  to-come = ap (λ (x : ℕ). snapshots_from x snaps) (sym is.tick_is) ∙ rising-to-come tick snaps is.rising

  pub left-told : reported_events (timed_from old.machine.delays old.machine.levels left (moment_of old) snaps)
      ≡ rest_of d.turn (left - 1) tick snaps (waits drops (option_map (λ x. x.bytes) d.text) d.taken) t
  left-told =
      way-told old.machine.delays old.machine.levels left tick (moment_of old) snaps d drops t decided.text is.tick_is delays levels dropped to-come
      d.turn decided.way

  pub left-keeps : IsRun d.turn (left - 1) tick snaps (waits drops (option_map (λ x. x.bytes) d.text) d.taken) t
  left-keeps =
      let m = moment_of old in
      record {
        stands =
            way-stands old.machine.delays old.machine.levels left tick m snaps d drops t decided.text is.tick_is delays levels dropped to-come
            d.turn decided.way is.rising;
        taken =
            way-taken old.machine.delays old.machine.levels left tick m snaps d drops t decided.text is.tick_is delays levels dropped to-come
            d.turn decided.way;
        in_time = subst {A = List TimedReportedEvent} AreInTime left-told is.in_time;
      }

-- ---- an entry completes

module _ (left tick : ℕ) (snaps : List ℕ) (t : Together) (before : IsBeforeEntry t)
    (in_time : AreInTime (reported_events (timed_behind t.machine.delays t.machine.levels left (standing_of tick t) snaps))) where
  abbrev p : Standing
  p = standing_of tick t

  abbrev next : Moment
  next = next_moment t.machine.delays t.machine.levels p

  pub next-done : next.scene.machine.done ≡ t.machine.state.done + 1
  unfolding next_moment
  next-done = step-done t.machine.state

  pub next-tick : next.tick ≡ (oldest_row t.machine).c
  unfolding next_moment
  next-tick = ap (λ r. r.c) (sym (row-before t tick before))

  next-in_time : (next.tick < 2 ^ 63) × (next.scene.machine.done < 2 ^ 63)
  next-in_time =
      told-completion (λ (y : TimedReportedEvent). (y.tick < 2 ^ 63) × (y.done < 2 ^ 63)) t.machine.delays t.machine.levels left p snaps in_time

  pub oldest-in_time : (oldest_row t.machine).c < 2 ^ 63
  oldest-in_time = omega (arith, next-in_time.0, next-tick)

  pub done-in_time : t.machine.state.done < 2 ^ 63
  done-in_time = omega (arith, next-in_time.1, next-done)
