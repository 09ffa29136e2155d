-- The events of a run are in order of their ticks.
use Rattle.st_run.proofs.Common.{map, reverse, ◌≡◌, ℕ, zero, suc, ◌+◌, ◌≤◌, inl, inr, List, [], ◌∷◌, ◌++◌, refl, sym, subst, arith, append_assoc, of_choice, interrupt, rests, PlainEvent, Ends, interlude, interrupts_by, Timed, drop_of, snapshot, Moment, Standing, next_state, ends_segment, standing_at, next_moment, event_at, ticks_before, snapshots_from, snapshot_at, last_snapshot_at, drops, drops_if_ends, happening_at, events_between, completion, until_done, last_events, timed_from, told_at, AreEventsInOrder, AreRising}
use Rattle.st_run.proofs.CourseLemmas.{test-lt, next-later, next-same, timed-none, timed-step}

-- ---- lists of ticks

order-weaker : (t u : ℕ) (xs : List Timed) → t ≤ u → AreEventsInOrder u xs → AreEventsInOrder t xs
unfolding AreEventsInOrder
order-weaker t u [] le is = tt
order-weaker t u (x ∷ xs) le is = (omega (arith, is.0), is.1)

rising-weaker : (t u : ℕ) (xs : List ℕ) → t ≤ u → AreRising u xs → AreRising t xs
unfolding AreRising
rising-weaker t u [] le is = tt
rising-weaker t u (x ∷ xs) le is = (omega (arith, is.0), is.1)

rising-from : (t u : ℕ) (xs : List ℕ) → t ≤ u → AreRising t xs → AreRising u (snapshots_from u xs)
unfolding AreRising snapshots_from
rising-from t u [] le is = tt
rising-from t u (x ∷ xs) le is = elim (test-lt x u) [
  | inl early ↦ rw early.0 (rising-from (x + 1) u xs (omega (arith, early.1)) is.1)
  | inr late ↦ rw late.0 (late.1, is.1)
]

-- ---- events from one tick to another: followed by any ordered events from there, they are ordered

abbrev Leads : ℕ → ℕ → List Timed → Type 0
Leads t u xs = (ys : List Timed) → AreEventsInOrder u ys → AreEventsInOrder t (xs ++ ys)

leads-nil : (t : ℕ) → Leads t t []
leads-nil t ys is = is

leads-append : (t u v : ℕ) (xs zs : List Timed) → Leads t u xs → Leads u v zs → Leads t v (xs ++ zs)
leads-append t u v xs zs first second ys is =
    subst (AreEventsInOrder t) (sym (append_assoc xs zs ys)) (first (zs ++ ys) (second ys is))

leads-one : (t u : ℕ) (x : Timed) → told_at x.tick x.event ≡ u → t ≤ u → Leads t u (x ∷ [])
unfolding AreEventsInOrder
leads-one t u x told le ys is = rw told (le, is)

leads-at : {A : Type 0} (t : ℕ) (f : A → Timed) (xs : List A) → ((x : A) → told_at (f x).tick (f x).event ≡ t)
    → Leads t t (map f xs)
unfolding AreEventsInOrder
leads-at t f [] told ys is = is
leads-at t f (x ∷ xs) told ys is = rw (told x) (omega arith, leads-at t f xs told ys is)

-- snapshots at increasing ticks before v
leads-snapshots : (t u v : ℕ) (f : ℕ → Timed) (xs : List ℕ) → ((x : ℕ) → told_at (f x).tick (f x).event ≡ x)
    → t ≤ u → v ≤ u + 1 → AreRising t xs → Leads t u (map f (ticks_before v xs))
unfolding AreEventsInOrder AreRising ticks_before
leads-snapshots t u v f [] told le near rising ys is = order-weaker t u ys le is
leads-snapshots t u v f (x ∷ xs) told le near rising ys is = elim (test-lt x v) [
  | inl early ↦
      let on : x ≤ u = omega (arith, early.1) in
      let behind = rising-weaker x (x + 1) xs (omega arith) rising.1 in
      rw early.0 (rw (told x) (rising.0, leads-snapshots x u v f xs told on near behind ys is))
  | inr late ↦ rw late.0 (order-weaker t u ys le is)
]

-- ---- one entry

module _ (m : Moment) where
  drops-lead : Leads m.tick m.tick (drops m)
  unfolding drops
  drops-lead = leads-at m.tick (λ a. event_at m.tick m.scene.machine (drop_of a)) (reverse m.dropped) (λ a. refl)

  happenings-lead : (hs : List PlainEvent) → Leads m.tick m.tick (map (happening_at m) hs)
  happenings-lead hs = leads-at m.tick (happening_at m) hs (λ h. refl)

  between-lead : Leads m.tick m.tick (events_between m)
  unfolding events_between
  between-lead =
      let hs = (interlude m.scene).happened ++ interrupts_by (interrupt (next_state m)) (next_state m) in
      leads-append m.tick m.tick m.tick (drops_if_ends m) (map (happening_at m) hs)
      (of_choice (λ xs. Leads m.tick m.tick xs) (ends_segment m) (drops m) [] drops-lead (leads-nil m.tick))
      (happenings-lead hs)

  last-order : (snaps : List ℕ) → AreRising m.tick snaps → AreEventsInOrder m.tick (last_events m snaps)
  unfolding last_events AreEventsInOrder
  last-order snaps rising =
      let came = map (happening_at m) (interlude m.scene).happened in
      let shows = map (last_snapshot_at m) (ticks_before (m.tick + 1) snaps) in
      let last = happening_at m (Ends (next_state m) (rests (next_state m))) in
      leads-append m.tick m.tick m.tick (drops m ++ came) shows
      (leads-append m.tick m.tick m.tick (drops m) came drops-lead (happenings-lead (interlude m.scene).happened))
      (leads-snapshots m.tick m.tick (m.tick + 1) (last_snapshot_at m) snaps (λ x. refl) (omega arith) (omega arith) rising)
      (last ∷ []) (omega arith, tt)

until_done-lead : (ds : List ℕ) (n : ℕ) (p : Standing) (snaps : List ℕ) → p.tick ≤ (next_moment ds n p).tick
    → AreRising p.tick snaps → Leads p.tick (next_moment ds n p).tick (until_done ds n p snaps)
unfolding until_done snapshot
until_done-lead ds n p snaps later rising =
    let tick = (next_moment ds n p).tick in
    leads-append p.tick tick tick (map (snapshot_at ds n p) (ticks_before tick snaps)) (completion ds n p ∷ [])
    (leads-snapshots p.tick tick tick (snapshot_at ds n p) snaps (λ x. refl) later (omega arith) rising)
    (leads-one tick tick (completion ds n p) refl (omega arith))

-- ---- the run

module _ (ds : List ℕ) (n : ℕ) where
  pub timed-order : (left : ℕ) (t : ℕ) (m : Moment) (snaps : List ℕ) → m.issue.c ≡ m.tick → t ≤ m.tick → AreRising t snaps
      → AreEventsInOrder m.tick (timed_from ds n left m snaps)
  timed-order zero t m snaps same early rising = rw (timed-none ds n m snaps) (last-order m (snapshots_from m.tick snaps) (rising-from t m.tick snaps early rising))
  timed-order (suc left) t m snaps same early rising =
      let p = standing_at m in
      let next = next_moment ds n p in
      let later : m.tick ≤ next.tick = next-later ds n m same in
      let due = snapshots_from m.tick snaps in
      let on = rising-from t m.tick snaps early rising in
      let turn = events_between m ++ until_done ds n p due in
      let rest = timed_from ds n left next snaps in
      rw (timed-step ds n left m snaps)
      (of_choice (λ xs. AreEventsInOrder m.tick xs) (rests (next_state m)) (last_events m due) (turn ++ rest)
      (last-order m due on)
      (leads-append m.tick m.tick next.tick (events_between m) (until_done ds n p due) (between-lead m) (until_done-lead ds n p due later on)
      rest (timed-order left t next snaps (next-same ds n p) (omega (arith, early, later)) rising)))
