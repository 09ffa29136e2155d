-- Proofs of the laws of the length of runs.
use Rattle.std.specs.Prelude.{All, map, reverse}
use Rattle.std.proofs.Common.{◌≡◌, ℕ, zero, suc, ◌+◌, ◌≤◌, List, [], ◌∷◌, ◌++◌, append_assoc, ◌*◌, refl, sym, subst, arith}
use Rattle.st_prep.proofs.Choices.{of_choice}
use Rattle.st_exec.specs.Step.{interrupt, rests}
use Rattle.st_exec.proofs.StepLemmas.{step-done}
use Rattle.st_run.specs.Run.{Scene, Ends, Transition, interlude, interrupts_by, scene_after_step, run}
use Rattle.st_run.proofs.Runs.{transition_at_end, goes_on, run-none, run-step}
use Rattle.st_run.proofs.CourseLemmas.{timed-none, timed-step}
use Rattle.st_run.specs.Events.{Timed, drop_of}
use Rattle.st_run.specs.Moments.{Moment, Standing, moment_at_start, next_state, ends_segment, standing_at, next_moment}
use Rattle.st_run.specs.TimedRun.{event_at, ticks_before, snapshots_from, drops, drops_if_ends, happening_at, events_between, snapshot_at, completion, until_done, last_snapshot_at, last_events, timed_from}
use Rattle.st_rows.specs.Ranges.{AreDelaysUpTo}
use Rattle.st_run.specs.RunLaws.{RunsKeepTheirBudget, AreNear, CompletionsAreNear}
use Rattle.st_run.proofs.Bounds.{IsMoment, next-is, next-tick, start-is}
use Rattle.st_run.proofs.DoneLemmas.{settled-done}
use Rattle.st_run.proofs.EachEvent.{timed-each, next-more}

-- ---- the budget

pub timed-done : (ds : List ℕ) (n left k : ℕ) (m : Moment) (snaps : List ℕ) → m.scene.machine.done + left ≤ k
    → All (λ (x : Timed). x.done ≤ k) (timed_from ds n left m snaps)
timed-done ds n left k m snaps few =
    timed-each (λ done tick. done ≤ k) ds n (λ left m. m.scene.machine.done + left ≤ k) (λ left m few. omega (arith, few))
    (λ left m few. let more = next-more ds n m in omega (arith, few, more)) left m snaps few

-- the count of completed instructions of the plain run is within the budget
ran-done : (left : ℕ) (c : Scene) → (run left c).scene.machine.done ≤ c.machine.done + left
ran-done zero c = rw (run-none c) (let same = settled-done c in omega (arith, same))
ran-done (suc left) c =
    let same = settled-done c in
    let next = scene_after_step (interlude c).scene in
    let more : next.machine.done ≡ (interlude c).scene.machine.done + 1 = step-done (interlude c).scene.machine in
    let rest = ran-done left next in
    rw (run-step left c)
    (of_choice (λ (x : Transition). x.scene.machine.done ≤ c.machine.done + suc left) (rests (interlude c).scene.machine)
    (transition_at_end (interlude c)) (goes_on (interlude c) (run left next)) (omega (arith, same)) (omega (arith, same, more, rest)))

pub runs_keep_their_budget : RunsKeepTheirBudget
runs_keep_their_budget = record {
  plain = ran-done;
  whole = λ ds snaps n left c. timed-done ds n left (c.machine.done + left) (moment_at_start c) snaps (omega arith);
  from = λ ds snaps n left m. timed-done ds n left (m.scene.machine.done + left) m snaps (omega arith);
}

-- ---- completions

-- the events keep their distance from the tick t if the events after them keep it from the tick u
abbrev ComesNear : ℕ → ℕ → ℕ → List Timed → Type 0
ComesNear b t u xs = (ys : List Timed) → AreNear b u ys → AreNear b t (xs ++ ys)

near-append : (b t u v : ℕ) (xs zs : List Timed) → ComesNear b t u xs → ComesNear b u v zs → ComesNear b t v (xs ++ zs)
near-append b t u v xs zs first second ys is = subst (AreNear b t) (sym (append_assoc xs zs ys)) (first (zs ++ ys) (second ys is))

near-at : {A : Type 0} (b t : ℕ) (f : A → Timed) (xs : List A) → ((x : A) → (f x).tick ≡ t) → ComesNear b t t (map f xs)
unfolding AreNear
near-at b t f [] same ys is = is
near-at b t f (x ∷ xs) same ys is = rw (same x) (omega arith, near-at b t f xs same ys is)

near-one : (b t : ℕ) (x : Timed) → x.tick ≤ t + b → ComesNear b t x.tick (x ∷ [])
unfolding AreNear
near-one b t x soon ys is = (soon, is)

near-nil : (b t : ℕ) → ComesNear b t t []
near-nil b t ys is = is

module _ (b : ℕ) (m : Moment) where
  drops-near : ComesNear b m.tick m.tick (drops m)
  unfolding drops
  drops-near = near-at b m.tick (λ a. event_at m.tick m.scene.machine (drop_of a)) (reverse m.dropped) (λ a. refl)

  between-near : ComesNear b m.tick m.tick (events_between m)
  unfolding events_between
  between-near =
      let hs = (interlude m.scene).happened ++ interrupts_by (interrupt (next_state m)) (next_state m) in
      near-append b m.tick m.tick m.tick (drops_if_ends m) (map (happening_at m) hs)
      (of_choice (λ xs. ComesNear b m.tick m.tick xs) (ends_segment m) (drops m) [] drops-near (near-nil b m.tick))
      (near-at b m.tick (happening_at m) hs (λ h. refl))

  last-near : (snaps : List ℕ) → AreNear b m.tick (last_events m snaps)
  unfolding last_events AreNear
  last-near snaps =
      let came = map (happening_at m) (interlude m.scene).happened in
      let shows = map (last_snapshot_at m) (ticks_before (m.tick + 1) snaps) in
      let last = happening_at m (Ends (next_state m) (rests (next_state m))) in
      near-append b m.tick m.tick m.tick (drops m ++ came) shows
      (near-append b m.tick m.tick m.tick (drops m) came drops-near (near-at b m.tick (happening_at m) (interlude m.scene).happened (λ h. refl)))
      (near-at b m.tick (last_snapshot_at m) (ticks_before (m.tick + 1) snaps) (λ x. refl))
      (last ∷ []) (omega arith, tt)

until_done-near : (b : ℕ) (ds : List ℕ) (n : ℕ) (p : Standing) (snaps : List ℕ) → (next_moment ds n p).tick ≤ p.tick + b
    → ComesNear b p.tick (next_moment ds n p).tick (until_done ds n p snaps)
unfolding until_done
until_done-near b ds n p snaps soon =
    let tick = (next_moment ds n p).tick in
    near-append b p.tick p.tick tick (map (snapshot_at ds n p) (ticks_before tick snaps)) (completion ds n p ∷ [])
    (near-at b p.tick (snapshot_at ds n p) (ticks_before tick snaps) (λ x. refl))
    (near-one b p.tick (completion ds n p) soon)

module _ (most n : ℕ) (ds : List ℕ) (are : AreDelaysUpTo most ds) (levels : n ≤ 8) where
  timed-near : (left : ℕ) (m : Moment) (snaps : List ℕ) → IsMoment most n m → AreNear (64 * (most + 4)) m.tick (timed_from ds n left m snaps)
  timed-near zero m snaps is = rw (timed-none ds n m snaps) (last-near (64 * (most + 4)) m (snapshots_from m.tick snaps))
  timed-near (suc left) m snaps is =
      let b = 64 * (most + 4) in
      let p = standing_at m in
      let next = next_moment ds n p in
      let due = snapshots_from m.tick snaps in
      let turn = events_between m ++ until_done ds n p due in
      let rest = timed_from ds n left next snaps in
      rw (timed-step ds n left m snaps)
      (of_choice (λ xs. AreNear b m.tick xs) (rests (next_state m)) (last_events m due) (turn ++ rest) (last-near b m due)
      (near-append b m.tick m.tick next.tick (events_between m) (until_done ds n p due) (between-near b m)
      (until_done-near b ds n p due (next-tick most n ds are levels m is))
      rest (timed-near left next snaps (next-is most n ds are levels m is))))

pub completions_are_near : CompletionsAreNear
completions_are_near ds snaps most n left c are levels is = timed-near most n ds are levels left (moment_at_start c) snaps (start-is most n ds are levels c is)
