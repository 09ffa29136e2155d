-- A hazard-free run is a single segment, and with more levels no entry completes later.
use Rattle.st_sweep.proofs.Common.{◌≡◌, ℕ, zero, suc, ◌-◌, ◌≤◌, inl, inr, true, false, List, [], ◌∷◌, ◌++◌, length, refl, ◌∙◌, ap, arith, cases_Bool, and_parts, interrupt, rests, Scene, interlude, scene_after_step, AreEqual, IsIssueSooner, AreInOrder, AreCovered, WordRuns, entry, Moment, moment_at_start, next_state, ends_segment, next_issue, standing_at, next_row, next_moment, snapshots_from, events_between, completion, timed_from, timed_behind, last_completion, last-append, last_events-tick, tick-same, are_equal, is_hazard_free, is_hazard_free_behind, ticks}
use Rattle.st_banks.specs.declared.answers.LastAnswers.{LastAnswers}
use Rattle.st_rows.specs.Rows.{opening_issue, row_of_entry, issue_after_entry}
use Rattle.st_rows.specs.declared.issue.IssueState.{IssueState}
use Rattle.st_rows.proofs.Sooner.{row-sooner, after-sooner, order-after, covered-after, hazard_free-behind, opening-sooner, opening-order, opening-covered}
use Rattle.st_segment.specs.Ahead.{Ahead}
use Rattle.st_banks.specs.Bank.{idle_banks}
use Rattle.st_run.proofs.Turns.{timed-rests, timed-budget, timed-goes_on, behind-none}
use Rattle.st_sweep.proofs.HazardFreedom.{same-delays, GoesOn, hazard_free-goes_on}

-- a moment without misprediction
abbrev moment : Scene → ℕ → IssueState → List Ahead → LastAnswers → Moment
moment c tick f dropped banks =
    record { scene = c; tick = tick; issue = f; mispredicted = false; dropped = dropped; banks = banks }

-- ---- the last tick

last-ends : (ds : List ℕ) (n left v : ℕ) (m : Moment) → rests (next_state m) ≡ true → last_completion v (timed_from ds n left m []) ≡ m.tick
unfolding snapshots_from
last-ends ds n left v m h = ap (last_completion v) (timed-rests ds n left m [] refl h) ∙ last_events-tick v m []

last-budget : (ds : List ℕ) (n v : ℕ) (m : Moment) → last_completion v (timed_from ds n zero m []) ≡ m.tick
unfolding snapshots_from
last-budget ds n v m = ap (last_completion v) (timed-budget ds n zero m [] refl refl) ∙ last_events-tick v m []

last-goes_on : (ds : List ℕ) (n left v : ℕ) (m : Moment) → rests (next_state m) ≡ false
    → last_completion v (timed_from ds n (suc left) m [])
    ≡ last_completion (next_moment ds n (standing_at m)).tick (timed_from ds n left (next_moment ds n (standing_at m)) [])
unfolding last_completion snapshots_from
last-goes_on ds n left v m h =
    let p = standing_at m in
    let one : suc left - 1 ≡ left = omega arith in
    ap (last_completion v)
    (timed-goes_on ds n (suc left) m [] refl (λ e. cc) h
    ∙ ap (λ k. events_between m ++ timed_behind ds n k p []) one
    ∙ ap (λ xs. events_between m ++ xs) (behind-none ds n left p))
    ∙ last-append v (events_between m) (completion ds n p ∷ timed_from ds n left (next_moment ds n p) [])

-- ---- one more entry

module _ (earlier : List WordRuns) (left : ℕ) (c : Scene) (going : rests (interlude c).scene.machine ≡ false) (on : GoesOn earlier left c) where
  stays : (tick : ℕ) (f : IssueState) (dropped : List Ahead) (banks : LastAnswers) → next_issue (moment c tick f dropped banks) ≡ f
  unfolding next_issue ends_segment
  stays tick f dropped banks = rw (on.quiet.no_card, on.quiet.no_wait going, on.hazard_free.none) refl

  next-is : (ds : List ℕ) (n tick : ℕ) (f : IssueState) (dropped : List Ahead) (banks : LastAnswers)
      → let s = (interlude c).scene.machine in
      let e = entry (interrupt s) s in
      let next = next_moment ds n (standing_at (moment c tick f dropped banks)) in
      next ≡ moment (scene_after_step (interlude c).scene) (row_of_entry ds n f e).c (issue_after_entry ds n f e) next.dropped next.banks
  unfolding next_moment next_row
  next-is ds n tick f dropped banks = rw (stays tick f dropped banks, on.hazard_free.right) refl

-- ---- the run

module _ (d : ℕ) (ds : List ℕ) (are : AreEqual d ds) (m n : ℕ) (more : n ≤ m) where
  hazard_free-sooner : (left : ℕ) (c : Scene) (earlier : List WordRuns) (t u : ℕ) (f g : IssueState) (xs ys : List Ahead) (b e : LastAnswers)
      → t ≤ u → IsIssueSooner f g → AreInOrder g → AreCovered f.past earlier → is_hazard_free_behind earlier left c ≡ true → (v w : ℕ)
      → last_completion v (timed_from ds m left (moment c t f xs b) []) ≤ last_completion w (timed_from ds n left (moment c u g ys e) [])
  hazard_free-sooner zero c earlier t u f g xs ys b e low is order covered hazard_free v w =
      omega (arith, last-budget ds m v (moment c t f xs b), last-budget ds n w (moment c u g ys e))
  hazard_free-sooner (suc left) c earlier t u f g xs ys b e low is order covered hazard_free v w =
      let x = moment c t f xs b in
      let y = moment c u g ys e in
      elim (cases_Bool (rests (interlude c).scene.machine)) [
        | inl at_rest ↦ omega (arith, last-ends ds m (suc left) v x at_rest, last-ends ds n (suc left) w y at_rest)
        | inr going ↦
            let s = (interlude c).scene.machine in
            let i = entry (interrupt s) s in
            let on = hazard_free-goes_on earlier left c hazard_free going in
            let behind = hazard_free-behind f.past earlier i covered on.hazard_free.hazard_free in
            let done : (row_of_entry ds m f i).c ≤ (row_of_entry ds n g i).c = (row-sooner d ds are m n more f g i is order behind).done in
            let next = next_moment ds m (standing_at x) in
            let other = next_moment ds n (standing_at y) in
            let first = last-goes_on ds m left v x going ∙ ap (λ k. last_completion next.tick (timed_from ds m left k [])) (next-is earlier left c going on ds m t f xs b) in
            let second = last-goes_on ds n left w y going ∙ ap (λ k. last_completion other.tick (timed_from ds n left k [])) (next-is earlier left c going on ds n u g ys e) in
            let rest =
            hazard_free-sooner left (scene_after_step (interlude c).scene) (i.writes ∷ earlier) (row_of_entry ds m f i).c (row_of_entry ds n g i).c (issue_after_entry ds m f i) (issue_after_entry ds n g i)
            next.dropped other.dropped next.banks other.banks done (after-sooner d ds are m n more f g i is order behind) (order-after ds n g i order)
            (covered-after ds m f i earlier covered) on.rest next.tick other.tick in
            omega (arith, first, second, rest)
      ]

pub hazard_free-ticks : (ds : List ℕ) (m n left : ℕ) (c : Scene) → 1 ≤ length ds → n ≤ m → is_hazard_free ds left c ≡ true
    → ticks ds m left c ≤ ticks ds n left c
unfolding ticks
hazard_free-ticks ds m n left c some more hazard_free =
    let parts = and_parts (are_equal ds) (is_hazard_free_behind [] left c) hazard_free in
    let same = same-delays ds some parts.0 in
    let issue = opening_issue idle_banks 0 in
    let sooner =
    hazard_free-sooner same.delay ds same.each m n more left c [] 0 0 issue issue [] [] idle_banks idle_banks (omega arith) (opening-sooner idle_banks 0)
    (opening-order idle_banks 0) (opening-covered idle_banks 0) parts.1 0 0 in
    omega (arith, sooner, tick-same ds m left 0 (moment_at_start c) [], tick-same ds n left 0 (moment_at_start c) [])
