-- The events of a timed run: those of its first moment, followed by the rest.
use Rattle.st_run.proofs.Common.{flat_map, ◌≡◌, ℕ, zero, suc, ◌≤◌, ◌<◌, ◌⊎◌, Bool, true, false, List, [], ◌∷◌, ◌++◌, inl, inr, refl, sym, ap, ◌∙◌, append_assoc, arith, nat_lt, cases_Bool, ltb-true, ltb-false, lt-ltb, of_choice, rests, Course, course, Scene, interlude, state_next, scenes, run, Timed, AreRising, row_of_entry, tick_c, issue_after_entry, Moment, Standing, next_state, ends_segment, next_segment, next_issue, standing_at, next_row, next_moment, moments, snapshots_from, events_between, until_done, last_events, told_from, timed_from}
use Rattle.std.proofs.Common.{if◌then◌else◌, map}

-- ---- the ticks of moments

module _ (ds : List ℕ) (n : ℕ) where
  pub next-later : (m : Moment) → m.issue.c ≡ m.tick → m.tick ≤ (next_moment ds n (standing_at m)).tick
  unfolding next_moment next_row row_of_entry tick_c next_issue
  next-later m same =
      let issue : m.tick ≤ (next_issue m).c = of_choice (λ f. m.tick ≤ f.c) (ends_segment m) (next_segment m) m.issue (omega arith) (omega (arith, same)) in
      omega (arith, issue)

  pub next-same : (p : Standing) → (next_moment ds n p).issue.c ≡ (next_moment ds n p).tick
  unfolding next_moment next_row row_of_entry issue_after_entry
  next-same p = refl

-- ---- remaining snapshots

pub test-lt : (x u : ℕ) → ((nat_lt x u ≡ true) × (x < u)) ⊎ ((nat_lt x u ≡ false) × (u ≤ x))
test-lt x u = elim (cases_Bool (nat_lt x u)) [ inl t ↦ inl (t, ltb-true x u t) | inr f ↦ inr (f, ltb-false x u f) ]

-- the ticks from u are among the ticks from an earlier tick t
pub again : (t u : ℕ) (xs : List ℕ) → t ≤ u → snapshots_from u (snapshots_from t xs) ≡ snapshots_from u xs
unfolding snapshots_from
again t u [] le = refl
again t u (x ∷ xs) le = elim (test-lt x t) [
  | inl early ↦ elim (test-lt x u) [
    | inl y ↦ rw early.0 (rw y.0 (again t u xs le))
    | inr n ↦ let no : ⊥ = omega (arith, early.1, n.1) in absurd no
  ]
  | inr late ↦ rw late.0 refl
]

-- all ticks are from tick 0
pub all-to-come : (xs : List ℕ) → snapshots_from 0 xs ≡ xs
unfolding snapshots_from
all-to-come [] = refl
all-to-come (x ∷ xs) = elim (test-lt x 0) [ inl y ↦ let no : ⊥ = omega (arith, y.1) in absurd no | inr n ↦ rw n.0 refl ]

-- increasing ticks from t are all from t
pub rising-to-come : (t : ℕ) (xs : List ℕ) → AreRising t xs → snapshots_from t xs ≡ xs
unfolding snapshots_from AreRising
rising-to-come t [] is = refl
rising-to-come t (x ∷ xs) is = elim (test-lt x t) [ inl y ↦ let no : ⊥ = omega (arith, y.1, is.0) in absurd no | inr n ↦ rw n.0 refl ]

-- ---- one entry

module _ (ds : List ℕ) (n : ℕ) where
  -- the events of a course of moments
  abbrev told : List ℕ → Course Moment → List Timed
  told snaps r = flat_map (told_from ds n snaps) r.before ++ last_events r.last (snapshots_from r.last.tick snaps)

  timed-choice : (ends : Bool) (snaps : List ℕ) (m : Moment) (r : Course Moment)
      → told snaps (if ends then record { before = []; last = m } else record { before = m ∷ r.before; last = r.last })
      ≡ (if ends then last_events m (snapshots_from m.tick snaps) else told_from ds n snaps m ++ told snaps r)
  timed-choice true snaps m r = refl
  timed-choice false snaps m r =
      append_assoc (told_from ds n snaps m) (flat_map (told_from ds n snaps) r.before) (last_events r.last (snapshots_from r.last.tick snaps))

  pub timed-step : (left : ℕ) (m : Moment) (snaps : List ℕ)
      → timed_from ds n (suc left) m snaps
      ≡ (if rests (next_state m) then last_events m (snapshots_from m.tick snaps)
      else (events_between m ++ until_done ds n (standing_at m) (snapshots_from m.tick snaps)) ++ timed_from ds n left (next_moment ds n (standing_at m)) snaps)
  unfolding timed_from course
  timed-step left m snaps = timed-choice (rests (next_state m)) snaps m (moments ds n left (next_moment ds n (standing_at m)))

  pub timed-none : (m : Moment) (snaps : List ℕ) → timed_from ds n zero m snaps ≡ last_events m (snapshots_from m.tick snaps)
  unfolding timed_from course
  timed-none m snaps = refl

  -- a snapshot before the first moment is not shown
  pub timed-later : (left : ℕ) (m : Moment) (x : ℕ) (xs : List ℕ) → m.issue.c ≡ m.tick → x < m.tick
      → timed_from ds n left m (x ∷ xs) ≡ timed_from ds n left m xs
  unfolding snapshots_from
  timed-later zero m x xs same early =
      timed-none m (x ∷ xs) ∙ (let gone = lt-ltb x m.tick early in rw gone refl) ∙ sym (timed-none m xs)
  timed-later (suc left) m x xs same early =
      let p = standing_at m in
      let next = next_moment ds n p in
      let later : m.tick ≤ next.tick = next-later ds n m same in
      let rest : timed_from ds n left next (x ∷ xs) ≡ timed_from ds n left next xs = timed-later left next x xs (next-same ds n p) (omega (arith, early, later)) in
      let gone : snapshots_from m.tick (x ∷ xs) ≡ snapshots_from m.tick xs = rw (lt-ltb x m.tick early) refl in
      timed-step left m (x ∷ xs)
      ∙ ap (λ (ys : List ℕ). if rests (next_state m) then last_events m ys else (events_between m ++ until_done ds n p ys) ++ timed_from ds n left next (x ∷ xs)) gone
      ∙ ap (λ (ys : List Timed). if rests (next_state m) then last_events m (snapshots_from m.tick xs)
      else (events_between m ++ until_done ds n p (snapshots_from m.tick xs)) ++ ys) rest
      ∙ sym (timed-step left m xs)

  -- ---- the scenes are those of the plain run

  pub scenes-same : (left : ℕ) (m : Moment)
      → map state_next (scenes left m.scene).before ++ state_next (scenes left m.scene).last ∷ []
      ≡ map next_state (moments ds n left m).before ++ next_state (moments ds n left m).last ∷ []
  unfolding course next_moment
  scenes-same zero m = refl
  scenes-same (suc left) m = grind (arith, scenes-same left (next_moment ds n (standing_at m)))

  last-scene : (left : ℕ) (m : Moment) → (scenes left m.scene).last ≡ (moments ds n left m).last.scene
  unfolding course next_moment
  last-scene zero m = refl
  last-scene (suc left) m = grind (arith, last-scene left (next_moment ds n (standing_at m)))

  pub last-same : (left : ℕ) (m : Moment) → (run left m.scene).scene.machine ≡ next_state (moments ds n left m).last
  unfolding run
  last-same left m = ap (λ (c : Scene). (interlude c).scene.machine) (last-scene left m)
