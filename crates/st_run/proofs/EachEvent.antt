-- Properties of each event of a run, by the count of completed instructions and the tick.
use Rattle.st_run.proofs.Common.{All, map, reverse, ◌≡◌, ℕ, zero, suc, ◌+◌, List, [], ◌∷◌, ◌++◌, sym, subst, ◌∙◌, ap, All-nil, All-cons, All-append, of_choice, interrupt, rests, step-done, Ahead, Ends, interlude, interrupts_by, Timed, drop_of, Moment, Standing, next_state, ends_segment, standing_at, next_moment, event_at, ticks_before, snapshots_from, snapshot_at, last_snapshot_at, drops, drops_if_ends, happening_at, events_between, completion, until_done, last_events, timed_from}
use Rattle.st_run.proofs.CourseLemmas.{timed-none, timed-step}
use Rattle.st_run.proofs.DoneLemmas.{settled-done}

abbrev HoldsOf : (ℕ → ℕ → Type 0) → Timed → Type 0
HoldsOf Q x = Q x.done x.tick

each : {A : Type 0} (Q : ℕ → ℕ → Type 0) (f : A → Timed) (xs : List A) → ((x : A) → HoldsOf Q (f x)) → All (HoldsOf Q) (map f xs)
each Q f [] holds = All-nil (HoldsOf Q)
each Q f (x ∷ xs) holds = All-cons (HoldsOf Q) (f x) (map f xs) (holds x) (each Q f xs holds)

module _ (Q : ℕ → ℕ → Type 0) (m : Moment) (here : Q m.scene.machine.done m.tick) where
  drops-each : All (HoldsOf Q) (drops m)
  unfolding drops
  drops-each = each Q (λ (a : Ahead). event_at m.tick m.scene.machine (drop_of a)) (reverse m.dropped) (λ a. here)

  between-each : All (HoldsOf Q) (events_between m)
  unfolding events_between
  between-each =
      let hs = (interlude m.scene).happened ++ interrupts_by (interrupt (next_state m)) (next_state m) in
      All-append (HoldsOf Q) (drops_if_ends m) (map (happening_at m) hs)
      (of_choice (λ (xs : List Timed). All (HoldsOf Q) xs) (ends_segment m) (drops m) [] drops-each (All-nil (HoldsOf Q)))
      (each Q (happening_at m) hs (λ h. here))

  last-each : (snaps : List ℕ) → All (HoldsOf Q) (last_events m snaps)
  unfolding last_events
  last-each snaps =
      let came = map (happening_at m) (interlude m.scene).happened in
      let shows = map (last_snapshot_at m) (ticks_before (m.tick + 1) snaps) in
      let last = happening_at m (Ends (next_state m) (rests (next_state m))) in
      All-append (HoldsOf Q) (drops m ++ came ++ shows) (last ∷ [])
      (All-append (HoldsOf Q) (drops m ++ came) shows
      (All-append (HoldsOf Q) (drops m) came drops-each (each Q (happening_at m) (interlude m.scene).happened (λ h. here)))
      (each Q (last_snapshot_at m) (ticks_before (m.tick + 1) snaps) (λ x. here)))
      (All-cons (HoldsOf Q) last [] here (All-nil (HoldsOf Q)))

until-each : (Q : ℕ → ℕ → Type 0) (ds : List ℕ) (n : ℕ) (p : Standing) (snaps : List ℕ) → Q p.scene.machine.done p.tick
    → Q (next_moment ds n p).scene.machine.done (next_moment ds n p).tick → All (HoldsOf Q) (until_done ds n p snaps)
unfolding until_done
until-each Q ds n p snaps here there =
    let shown = ticks_before (next_moment ds n p).tick snaps in
    let last = completion ds n p in
    All-append (HoldsOf Q) (map (snapshot_at ds n p) shown) (last ∷ [])
    (each Q (snapshot_at ds n p) shown (λ x. here))
    (All-cons (HoldsOf Q) last [] there (All-nil (HoldsOf Q)))

-- a property of all moments is a property of all events, by an invariant of the moments
pub timed-each : (Q : ℕ → ℕ → Type 0) (ds : List ℕ) (n : ℕ) (Keeps : ℕ → Moment → Type 0)
    → ((left : ℕ) (m : Moment) → Keeps left m → Q m.scene.machine.done m.tick)
    → ((left : ℕ) (m : Moment) → Keeps (suc left) m → Keeps left (next_moment ds n (standing_at m)))
    → (left : ℕ) (m : Moment) (snaps : List ℕ) → Keeps left m → All (λ (x : Timed). Q x.done x.tick) (timed_from ds n left m snaps)
timed-each Q ds n Keeps here on zero m snaps is = rw (timed-none ds n m snaps) (last-each Q m (here zero m is) (snapshots_from m.tick snaps))
timed-each Q ds n Keeps here on (suc left) m snaps is =
    let p = standing_at m in
    let next = next_moment ds n p in
    let now = here (suc left) m is in
    let more = on left m is in
    let due = snapshots_from m.tick snaps in
    let rest = timed_from ds n left next snaps in
    let turn = events_between m ++ until_done ds n p due in
    rw (timed-step ds n left m snaps)
    (of_choice (λ (xs : List Timed). All (HoldsOf Q) xs) (rests (next_state m)) (last_events m due) (turn ++ rest)
    (last-each Q m now due)
    (All-append (HoldsOf Q) turn rest
    (All-append (HoldsOf Q) (events_between m) (until_done ds n p due) (between-each Q m now)
    (until-each Q ds n p due (subst (λ (d : ℕ). Q d m.tick) (sym (settled-done m.scene)) now) (here left next more)))
    (timed-each Q ds n Keeps here on left next snaps more)))

-- the next moment has one more completed instruction
pub next-more : (ds : List ℕ) (n : ℕ) (m : Moment) → (next_moment ds n (standing_at m)).scene.machine.done ≡ m.scene.machine.done + 1
unfolding next_moment
next-more ds n m = step-done (next_state m) ∙ ap {A = ℕ} (λ d. d + 1) (settled-done m.scene)
