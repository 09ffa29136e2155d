-- The last event of a run is its end.
use Rattle.st_run.proofs.Common.{◌≡◌, ℕ, zero, suc, Bool, true, false, List, [], ◌∷◌, ◌++◌, ◌+◌, refl, sym, ◌∙◌, rests, Scene, Transition, Ends, interlude, scene_after_step, run, Timed, Moment, moment_at_start, next_scene, next_state, standing_at, next_moment, ticks_before, snapshots_from, drops, happening_at, last_snapshot_at, events_between, until_done, last_events, timed_from, last_completion}
use Rattle.std.proofs.Common.{if◌then◌else◌, map}
use Rattle.st_run.proofs.Runs.{transition_at_end, goes_on, run-none, run-step}
use Rattle.st_run.proofs.CourseLemmas.{timed-none, timed-step}
use Rattle.st_run.proofs.DoneLemmas.{settled-done}
use Rattle.st_run.proofs.ShownLemmas.{last-append, last_events-tick}

-- the count of completed instructions at the end of a list of events, d before it
unfoldable pub last_done : ℕ → List Timed → ℕ
last_done d [] = d
last_done d (x ∷ xs) = last_done x.done xs

done-append : (d : ℕ) (xs ys : List Timed) → last_done d (xs ++ ys) ≡ last_done (last_done d xs) ys
unfolding last_done
done-append d [] ys = refl
done-append d (x ∷ xs) ys = done-append x.done xs ys

-- the last of the events has the count of the end of the run, for any initial count
record EndsLike (ran : Transition) (xs : List Timed) : Type 0 where
  done : (d : ℕ) → last_done d xs ≡ ran.scene.machine.done
  tick : (t u : ℕ) → last_completion t xs ≡ last_completion u xs

last-like : (m : Moment) (snaps : List ℕ) → EndsLike (transition_at_end (interlude m.scene)) (last_events m snaps)
unfolding last_events last_done
last-like m snaps =
    let issue = drops m ++ map (happening_at m) (interlude m.scene).happened ++ map (last_snapshot_at m) (ticks_before (m.tick + 1) snaps) in
    record {
      done = λ d. done-append d issue (happening_at m (Ends (next_state m) (rests (next_state m))) ∷ []) ∙ sym (settled-done m.scene);
      tick = λ t u. last_events-tick t m snaps ∙ sym (last_events-tick u m snaps);
    }

like-if : (c : Bool) (m : Moment) (xs turn rest : List Timed) (later : Transition)
    → EndsLike (transition_at_end (interlude m.scene)) xs → EndsLike later rest
    → EndsLike (if c then transition_at_end (interlude m.scene) else goes_on (interlude m.scene) later) (if c then xs else turn ++ rest)
like-if true m xs turn rest later here there = here
like-if false m xs turn rest later here there = record {
  done = λ d. done-append d turn rest ∙ there.done (last_done d turn);
  tick = λ t u. last-append t turn rest ∙ there.tick (last_completion t turn) (last_completion u turn) ∙ sym (last-append u turn rest);
}

timed-like : (ds : List ℕ) (n left : ℕ) (m : Moment) (snaps : List ℕ) → EndsLike (run left m.scene) (timed_from ds n left m snaps)
unfolding next_moment
timed-like ds n zero m snaps = rw (timed-none ds n m snaps, run-none m.scene) (last-like m (snapshots_from m.tick snaps))
timed-like ds n (suc left) m snaps =
    let p = standing_at m in
    let next = next_moment ds n p in
    let due = snapshots_from m.tick snaps in
    rw (timed-step ds n left m snaps, run-step left m.scene)
    (like-if (rests (next_state m)) m (last_events m due) (events_between m ++ until_done ds n p due)
    (timed_from ds n left next snaps) (run left (scene_after_step (next_scene m)))
    (last-like m due) (timed-like ds n left next snaps))

pub run-done : (ds : List ℕ) (n left : ℕ) (c : Scene) (snaps : List ℕ) (d : ℕ) → last_done d (timed_from ds n left (moment_at_start c) snaps) ≡ (run left c).scene.machine.done
run-done ds n left c snaps d = (timed-like ds n left (moment_at_start c) snaps).done d

pub run-tick : (ds : List ℕ) (n left : ℕ) (c : Scene) (snaps : List ℕ) (t u : ℕ) → last_completion t (timed_from ds n left (moment_at_start c) snaps) ≡ last_completion u (timed_from ds n left (moment_at_start c) snaps)
run-tick ds n left c snaps t u = (timed-like ds n left (moment_at_start c) snaps).tick t u
