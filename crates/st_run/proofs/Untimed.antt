-- A timed run without its timing is the plain run.
use Rattle.st_run.proofs.Common.{map, reverse, ◌≡◌, ℕ, zero, suc, ◌+◌, Bool, true, false, List, [], ◌∷◌, ◌++◌, refl, sym, ◌∙◌, ap, append_assoc, append-nil, step, rests, address, interrupt, PlainEvent, Executes, Ends, interlude, interrupts_by, Transition, scene_after_step, happens, run, Timed, plain_events_of, plain_run, drop_of, snapshot, Moment, Standing, next_scene, next_state, ends_segment, standing_at, next_moment, event_at, ticks_before, snapshots_from, snapshot_at, last_snapshot_at, drops, drops_if_ends, happening_at, events_between, completion, until_done, last_events, timed_from}
use Rattle.std.proofs.Common.{if◌then◌else◌}
use Rattle.st_run.proofs.Runs.{transition_at_end, goes_on, run-none, run-step}
use Rattle.st_run.proofs.CourseLemmas.{timed-none, timed-step}

-- ---- lists of events

pub untimed-append : (xs ys : List Timed) → plain_run (xs ++ ys) ≡ plain_run xs ++ plain_run ys
unfolding plain_run
untimed-append [] ys = refl
untimed-append (x ∷ xs) ys =
    ap (λ rest. plain_events_of x.event ++ rest) (untimed-append xs ys)
    ∙ sym (append_assoc (plain_events_of x.event) (plain_run xs) (plain_run ys))

-- none of these events belongs to the plain run
none-of : {A : Type 0} (f : A → Timed) (xs : List A) → ((x : A) → plain_events_of (f x).event ≡ []) → plain_run (map f xs) ≡ []
unfolding plain_run
none-of f [] void = refl
none-of f (x ∷ xs) void = rw (void x) (none-of f xs void)

-- the events of the plain run are unchanged
happenings : (m : Moment) (hs : List PlainEvent) → plain_run (map (happening_at m) hs) ≡ hs
unfolding plain_run
happenings m [] = refl
happenings m (h ∷ hs) = ap (λ rest. h ∷ rest) (happenings m hs)

drops-none : (m : Moment) → plain_run (drops m) ≡ []
unfolding drops
drops-none m = none-of (λ a. event_at m.tick m.scene.machine (drop_of a)) (reverse m.dropped) (λ a. refl)

drops-none_if : (b : Bool) (m : Moment) → plain_run (if b then drops m else []) ≡ []
unfolding plain_run
drops-none_if true m = drops-none m
drops-none_if false m = refl

snapshots-none : (ds : List ℕ) (n : ℕ) (p : Standing) (xs : List ℕ) → plain_run (map (snapshot_at ds n p) xs) ≡ []
unfolding snapshot
snapshots-none ds n p xs = none-of (snapshot_at ds n p) xs (λ x. refl)

-- ---- one entry

between-plain : (m : Moment)
    → plain_run (events_between m) ≡ (interlude m.scene).happened ++ interrupts_by (interrupt (next_state m)) (next_state m)
unfolding events_between
between-plain m =
    let hs = (interlude m.scene).happened ++ interrupts_by (interrupt (next_state m)) (next_state m) in
    untimed-append (drops_if_ends m) (map (happening_at m) hs)
    ∙ ap (λ xs. xs ++ plain_run (map (happening_at m) hs)) (drops-none_if (ends_segment m) m)
    ∙ happenings m hs

until_done-plain : (ds : List ℕ) (n : ℕ) (p : Standing) (snaps : List ℕ)
    → plain_run (until_done ds n p snaps) ≡ Executes (step p.scene.machine) (address p.scene.machine) ∷ []
unfolding until_done next_moment plain_run
until_done-plain ds n p snaps =
    let due = ticks_before (next_moment ds n p).tick snaps in
    let last = completion ds n p ∷ [] in
    untimed-append (map (snapshot_at ds n p) due) last
    ∙ ap (λ xs. xs ++ plain_run last) (snapshots-none ds n p due)

turn-plain : (ds : List ℕ) (n : ℕ) (m : Moment) (snaps : List ℕ)
    → plain_run (events_between m ++ until_done ds n (standing_at m) snaps) ≡ (interlude m.scene).happened ++ happens (next_state m)
turn-plain ds n m snaps =
    let came = (interlude m.scene).happened in
    let s = next_state m in
    let taking = interrupts_by (interrupt s) s in
    let done = Executes (step s) (address s) ∷ [] in
    untimed-append (events_between m) (until_done ds n (standing_at m) snaps)
    ∙ ap (λ xs. xs ++ plain_run (until_done ds n (standing_at m) snaps)) (between-plain m)
    ∙ ap (λ xs. came ++ taking ++ xs) (until_done-plain ds n (standing_at m) snaps)
    ∙ append_assoc came taking done

last_events-plain : (m : Moment) (snaps : List ℕ) → plain_run (last_events m snaps) ≡ (transition_at_end (interlude m.scene)).happened
unfolding last_events plain_run
last_events-plain m snaps =
    let came = map (happening_at m) (interlude m.scene).happened in
    let shows = map (last_snapshot_at m) (ticks_before (m.tick + 1) snaps) in
    let last = happening_at m (Ends (next_state m) (rests (next_state m))) ∷ [] in
    untimed-append (drops m ++ came ++ shows) last
    ∙ ap (λ xs. xs ++ plain_run last)
    (untimed-append (drops m ++ came) shows
    ∙ ap (λ xs. plain_run (drops m ++ came) ++ xs) (none-of (last_snapshot_at m) (ticks_before (m.tick + 1) snaps) (λ x. refl))
    ∙ append-nil (plain_run (drops m ++ came))
    ∙ untimed-append (drops m) came
    ∙ ap (λ xs. xs ++ plain_run came) (drops-none m)
    ∙ happenings m (interlude m.scene).happened)

-- ---- the run

module _ (ds : List ℕ) (n left : ℕ) (m : Moment) (snaps : List ℕ) where
  abbrev next : Moment
  next = next_moment ds n (standing_at m)

  abbrev rest : List Timed
  rest = timed_from ds n left next snaps

  abbrev due : List ℕ
  due = snapshots_from m.tick snaps

  abbrev later : Transition
  later = run left (scene_after_step (next_scene m))

  turns-plain : (b : Bool) → plain_run rest ≡ later.happened
      → plain_run (if b then last_events m due else events_between m ++ until_done ds n (standing_at m) due ++ rest)
      ≡ (if b then transition_at_end (interlude m.scene) else goes_on (interlude m.scene) later).happened
  turns-plain true same = last_events-plain m due
  turns-plain false same =
      let came = (interlude m.scene).happened in
      untimed-append (events_between m ++ until_done ds n (standing_at m) due) rest
      ∙ ap (λ xs. xs ++ plain_run rest) (turn-plain ds n m due)
      ∙ ap (λ xs. came ++ happens (next_state m) ++ xs) same
      ∙ append_assoc came (happens (next_state m)) later.happened

pub timed-plain : (ds : List ℕ) (n left : ℕ) (m : Moment) (snaps : List ℕ)
    → plain_run (timed_from ds n left m snaps) ≡ (run left m.scene).happened
unfolding next_moment
timed-plain ds n zero m snaps = rw (timed-none ds n m snaps, run-none m.scene) (last_events-plain m (snapshots_from m.tick snaps))
timed-plain ds n (suc left) m snaps =
    let after = next_moment ds n (standing_at m) in
    rw (timed-step ds n left m snaps, run-step left m.scene)
    (turns-plain ds n left m snaps (rests (next_state m)) (timed-plain ds n left after snaps))
