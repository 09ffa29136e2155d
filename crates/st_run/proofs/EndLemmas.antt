-- The bound of the end of a run.
use Rattle.st_run.proofs.Common.{◌≡◌, ℕ, zero, suc, ◌+◌, ◌*◌, ◌≤◌, Bool, true, false, List, ◌++◌, sym, subst, arith, mul-add, rests, Scene, Transition, interlude, scene_after_step, run, AreDelaysUpTo, Timed, Moment, moment_at_start, next_scene, next_state, standing_at, next_moment, IsScene, snapshots_from, events_between, until_done, last_events, timed_from, last_completion}
use Rattle.std.proofs.Common.{if◌then◌else◌}
use Rattle.st_run.proofs.Runs.{transition_at_end, goes_on, run-none, run-step}
use Rattle.st_run.proofs.CourseLemmas.{timed-none, timed-step}
use Rattle.st_run.proofs.Bounds.{IsMoment, HasTime, next-is, next-time, start-is}
use Rattle.st_run.proofs.DoneLemmas.{settled-done}
use Rattle.st_run.proofs.ShownLemmas.{last-append, last_events-tick}

-- the last of the events is within the bound, for any initial tick
EndsInTime : ℕ → List Timed → Transition → Type 0
EndsInTime b xs ran = (t : ℕ) → last_completion t xs ≤ b * (ran.scene.machine.done + 1)

last-ends : (b : ℕ) (m : Moment) (snaps : List ℕ) → HasTime b m.tick m.scene.machine
    → EndsInTime b (last_events m snaps) (transition_at_end (interlude m.scene))
unfolding EndsInTime
last-ends b m snaps has t =
    let same : (next_state m).done ≡ m.scene.machine.done = settled-done m.scene in
    let d = m.scene.machine.done in
    let early : m.tick ≤ b * (d + 1) = omega (arith, has, mul-add b d 1) in
    let late : m.tick ≤ b * ((next_state m).done + 1) = subst (λ k. m.tick ≤ b * (k + 1)) (sym same) early in
    omega (arith, late, last_events-tick t m snaps)

ends-if : (c : Bool) (b : ℕ) (m : Moment) (xs turn rest : List Timed) (later : Transition)
    → EndsInTime b xs (transition_at_end (interlude m.scene)) → EndsInTime b rest later
    → EndsInTime b (if c then xs else turn ++ rest) (if c then transition_at_end (interlude m.scene) else goes_on (interlude m.scene) later)
unfolding EndsInTime
ends-if true b m xs turn rest later here there t = here t
ends-if false b m xs turn rest later here there t =
    let far = there (last_completion t turn) in
    omega (arith, far, last-append t turn rest)

module _ (most n : ℕ) (ds : List ℕ) (are : AreDelaysUpTo most ds) (levels : n ≤ 8) where
  timed-ends : (left : ℕ) (m : Moment) (snaps : List ℕ) → IsMoment most n m
      → HasTime (64 * (most + 4)) m.tick m.scene.machine
      → EndsInTime (64 * (most + 4)) (timed_from ds n left m snaps) (run left m.scene)
  unfolding next_moment
  timed-ends zero m snaps is has = rw (timed-none ds n m snaps, run-none m.scene) (last-ends (64 * (most + 4)) m (snapshots_from m.tick snaps) has)
  timed-ends (suc left) m snaps is has =
      let b = 64 * (most + 4) in
      let p = standing_at m in
      let next = next_moment ds n p in
      let due = snapshots_from m.tick snaps in
      rw (timed-step ds n left m snaps, run-step left m.scene)
      (ends-if (rests (next_state m)) b m (last_events m due) (events_between m ++ until_done ds n p due)
      (timed_from ds n left next snaps) (run left (scene_after_step (next_scene m)))
      (last-ends b m due has)
      (timed-ends left next snaps (next-is most n ds are levels m is) (next-time most n ds are levels m is has)))

  pub run-ends : (left : ℕ) (c : Scene) (snaps : List ℕ) (t : ℕ) → IsScene c
      → last_completion t (timed_from ds n left (moment_at_start c) snaps) ≤ 64 * (most + 4) * ((run left c).scene.machine.done + 1)
  unfolding EndsInTime
  run-ends left c snaps t is = timed-ends left (moment_at_start c) snaps (start-is most n ds are levels c is) (omega arith) t
