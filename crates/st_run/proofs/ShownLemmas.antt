-- The snapshots that are shown.
use Rattle.st_run.proofs.Common.{map, reverse, ◌≡◌, ℕ, zero, suc, ◌+◌, ◌≤◌, ◌<◌, inl, inr, Bool, true, false, List, [], ◌∷◌, ◌++◌, refl, sym, ◌∙◌, ap, subst, arith, append_assoc, append-nil, lt-ltb, interrupt, rests, Ends, interlude, interrupts_by, Course, course, Timed, drop_of, snapshot, Moment, Standing, next_state, ends_segment, standing_at, next_moment, moments, event_at, ticks_before, snapshots_from, snapshot_at, last_snapshot_at, drops, drops_if_ends, happening_at, events_between, completion, until_done, last_events, timed_from, asked_by, shown_ticks, last_completion}
use Rattle.std.proofs.Common.{if◌then◌else◌}
use Rattle.st_run.proofs.CourseLemmas.{test-lt, next-later, next-same, again, all-to-come, timed-none, timed-step}

-- ---- lists

shown-append : (xs ys : List Timed) → shown_ticks (xs ++ ys) ≡ shown_ticks xs ++ shown_ticks ys
unfolding shown_ticks
shown-append [] ys = refl
shown-append (x ∷ xs) ys =
    ap (λ rest. asked_by x.event ++ rest) (shown-append xs ys)
    ∙ sym (append_assoc (asked_by x.event) (shown_ticks xs) (shown_ticks ys))

pub last-append : (t : ℕ) (xs ys : List Timed) → last_completion t (xs ++ ys) ≡ last_completion (last_completion t xs) ys
unfolding last_completion
last-append t [] ys = refl
last-append t (x ∷ xs) ys = last-append x.tick xs ys

none-shown : {A : Type 0} (f : A → Timed) (xs : List A) → ((x : A) → asked_by (f x).event ≡ []) → shown_ticks (map f xs) ≡ []
unfolding shown_ticks
none-shown f [] void = refl
none-shown f (x ∷ xs) void = rw (void x) (none-shown f xs void)

all-shown : (f : ℕ → Timed) (xs : List ℕ) → ((x : ℕ) → asked_by (f x).event ≡ x ∷ []) → shown_ticks (map f xs) ≡ xs
unfolding shown_ticks
all-shown f [] each = refl
all-shown f (x ∷ xs) each = rw (each x) (ap (λ rest. x ∷ rest) (all-shown f xs each))

-- the ticks before u, followed by those from u to v, are the ticks before v
before-both : (u v : ℕ) (xs : List ℕ) → u ≤ v → ticks_before u xs ++ ticks_before v (snapshots_from u xs) ≡ ticks_before v xs
unfolding ticks_before snapshots_from
before-both u v [] le = refl
before-both u v (x ∷ xs) le = elim (test-lt x u) [
  | inl early ↦
      let soon : x < v = omega (arith, early.1) in
      rw (early.0, lt-ltb x v soon) (ap (λ rest. x ∷ rest) (before-both u v xs le))
  | inr late ↦ rw late.0 refl
]

-- ---- one entry

drops-shown : (b : Bool) (m : Moment) → shown_ticks (if b then drops m else []) ≡ []
unfolding shown_ticks drops
drops-shown true m = none-shown (λ a. event_at m.tick m.scene.machine (drop_of a)) (reverse m.dropped) (λ a. refl)
drops-shown false m = refl

between-shown : (m : Moment) → shown_ticks (events_between m) ≡ []
unfolding events_between
between-shown m =
    let hs = (interlude m.scene).happened ++ interrupts_by (interrupt (next_state m)) (next_state m) in
    shown-append (drops_if_ends m) (map (happening_at m) hs)
    ∙ ap (λ xs. xs ++ shown_ticks (map (happening_at m) hs)) (drops-shown (ends_segment m) m)
    ∙ none-shown (happening_at m) hs (λ h. refl)

until_done-shown : (ds : List ℕ) (n : ℕ) (p : Standing) (snaps : List ℕ)
    → shown_ticks (until_done ds n p snaps) ≡ ticks_before (next_moment ds n p).tick snaps
unfolding until_done shown_ticks snapshot
until_done-shown ds n p snaps =
    let due = ticks_before (next_moment ds n p).tick snaps in
    shown-append (map (snapshot_at ds n p) due) (completion ds n p ∷ [])
    ∙ append-nil (shown_ticks (map (snapshot_at ds n p) due))
    ∙ all-shown (snapshot_at ds n p) due (λ x. refl)

last-shown : (m : Moment) (snaps : List ℕ) → shown_ticks (last_events m snaps) ≡ ticks_before (m.tick + 1) snaps
unfolding last_events shown_ticks
last-shown m snaps =
    let came = map (happening_at m) (interlude m.scene).happened in
    let due = ticks_before (m.tick + 1) snaps in
    let shows = map (last_snapshot_at m) due in
    shown-append (drops m ++ came ++ shows) (happening_at m (Ends (next_state m) (rests (next_state m))) ∷ [])
    ∙ append-nil (shown_ticks (drops m ++ came ++ shows))
    ∙ shown-append (drops m ++ came) shows
    ∙ ap (λ xs. xs ++ shown_ticks shows)
    (shown-append (drops m) came
    ∙ ap (λ xs. xs ++ shown_ticks came) (drops-shown true m)
    ∙ none-shown (happening_at m) (interlude m.scene).happened (λ h. refl))
    ∙ all-shown (last_snapshot_at m) due (λ x. refl)

-- ---- the last tick

last-one : (t : ℕ) (xs : List Timed) (x : Timed) → last_completion t (xs ++ x ∷ []) ≡ x.tick
unfolding last_completion
last-one t xs x = last-append t xs (x ∷ [])

pub last_events-tick : (t : ℕ) (m : Moment) (snaps : List ℕ) → last_completion t (last_events m snaps) ≡ m.tick
unfolding last_events
last_events-tick t m snaps =
    last-one t (drops m ++ map (happening_at m) (interlude m.scene).happened ++ map (last_snapshot_at m) (ticks_before (m.tick + 1) snaps))
    (happening_at m (Ends (next_state m) (rests (next_state m))))

-- ---- the run

module _ (ds : List ℕ) (n : ℕ) where
  -- the events of a run end at a tick up to which all snapshots are shown, for any initial tick
  record IsShown (t : ℕ) (snaps : List ℕ) (xs : List Timed) : Type 0 where
    later : (u : ℕ) → t ≤ last_completion u xs
    same : (u v : ℕ) → last_completion u xs ≡ last_completion v xs
    shown : (u : ℕ) → shown_ticks xs ≡ ticks_before (last_completion u xs + 1) snaps

  last-is : (m : Moment) (snaps : List ℕ) → IsShown m.tick snaps (last_events m snaps)
  last-is m snaps = record {
    later = λ u. let e = last_events-tick u m snaps in omega (arith, e);
    same = λ u v. last_events-tick u m snaps ∙ sym (last_events-tick v m snaps);
    shown = λ u. last-shown m snaps ∙ ap (λ t. ticks_before (t + 1) snaps) (sym (last_events-tick u m snaps));
  }

  turn-is : (m : Moment) (snaps : List ℕ) (rest : List Timed) → m.tick ≤ (next_moment ds n (standing_at m)).tick
      → IsShown (next_moment ds n (standing_at m)).tick (snapshots_from (next_moment ds n (standing_at m)).tick snaps) rest
      → IsShown m.tick snaps (events_between m ++ until_done ds n (standing_at m) snaps ++ rest)
  turn-is m snaps rest le is =
      let p = standing_at m in
      let tick = (next_moment ds n p).tick in
      let turn = events_between m ++ until_done ds n p snaps in
      let ends : (u : ℕ) → last_completion u (turn ++ rest) ≡ last_completion (last_completion u turn) rest = λ u. last-append u turn rest in
      record {
        later = λ u. let e = ends u in let far = is.later (last_completion u turn) in omega (arith, e, far);
        same = λ u v. ends u ∙ is.same (last_completion u turn) (last_completion v turn) ∙ sym (ends v);
        shown = λ u.
            let v = last_completion u turn in
            shown-append turn rest
            ∙ ap (λ xs. xs ++ shown_ticks rest)
            (shown-append (events_between m) (until_done ds n p snaps)
            ∙ ap (λ xs. xs ++ shown_ticks (until_done ds n p snaps)) (between-shown m)
            ∙ until_done-shown ds n p snaps)
            ∙ ap (λ xs. ticks_before tick snaps ++ xs) (is.shown v)
            ∙ before-both tick (last_completion v rest + 1) snaps (let far = is.later v in omega (arith, far))
            ∙ ap (λ t. ticks_before (t + 1) snaps) (sym (ends u));
      }

  shown-if : (b : Bool) (m : Moment) (snaps : List ℕ) (xs ys : List Timed) → IsShown m.tick snaps xs → IsShown m.tick snaps ys
      → IsShown m.tick snaps (if b then xs else ys)
  shown-if true m snaps xs ys here there = here
  shown-if false m snaps xs ys here there = there

  timed-is : (left : ℕ) (m : Moment) (snaps : List ℕ) → m.issue.c ≡ m.tick
      → IsShown m.tick (snapshots_from m.tick snaps) (timed_from ds n left m snaps)
  timed-is zero m snaps same = rw (timed-none ds n m snaps) (last-is m (snapshots_from m.tick snaps))
  timed-is (suc left) m snaps same =
      let p = standing_at m in
      let next = next_moment ds n p in
      let due = snapshots_from m.tick snaps in
      let later : m.tick ≤ next.tick = next-later ds n m same in
      let rest = timed_from ds n left next snaps in
      rw (timed-step ds n left m snaps)
      (shown-if (rests (next_state m)) m due (last_events m due) (events_between m ++ until_done ds n p due ++ rest)
      (last-is m due)
      (turn-is m due rest later
      (subst (λ (xs : List ℕ). IsShown next.tick xs rest) (sym (again m.tick next.tick snaps later)) (timed-is left next snaps (next-same ds n p)))))

  pub timed-shown : (left : ℕ) (m : Moment) (snaps : List ℕ) (t : ℕ) → m.issue.c ≡ m.tick → m.tick ≡ 0
      → shown_ticks (timed_from ds n left m snaps) ≡ ticks_before (last_completion t (timed_from ds n left m snaps) + 1) snaps
  timed-shown left m snaps t same start =
      (timed-is left m snaps same).shown t
      ∙ ap (ticks_before (last_completion t (timed_from ds n left m snaps) + 1)) (ap (λ k. snapshots_from k snaps) start ∙ all-to-come snaps)

-- ---- the last tick is that of the last moment

abbrev chosen : Bool → Moment → Course Moment → Course Moment
chosen ends m r = if ends then record { before = []; last = m } else record { before = m ∷ r.before; last = r.last }

last-choice : (ds : List ℕ) (n : ℕ) (ends : Bool) (t : ℕ) (m : Moment) (xs turn rest : List Timed) (r : Course Moment)
    → last_completion t xs ≡ m.tick → ((u : ℕ) → last_completion u rest ≡ r.last.tick)
    → last_completion t (if ends then xs else turn ++ rest)
    ≡ (chosen ends m r).last.tick
last-choice ds n true t m xs turn rest r here there = here
last-choice ds n false t m xs turn rest r here there = last-append t turn rest ∙ there (last_completion t turn)

pub tick-same : (ds : List ℕ) (n left t : ℕ) (m : Moment) (snaps : List ℕ)
    → last_completion t (timed_from ds n left m snaps) ≡ (moments ds n left m).last.tick
unfolding course
tick-same ds n zero t m snaps = ap (last_completion t) (timed-none ds n m snaps) ∙ last_events-tick t m (snapshots_from m.tick snaps)
tick-same ds n (suc left) t m snaps =
    let p = standing_at m in
    let next = next_moment ds n p in
    let due = snapshots_from m.tick snaps in
    ap (last_completion t) (timed-step ds n left m snaps)
    ∙ last-choice ds n (rests (next_state m)) t m (last_events m due) (events_between m ++ until_done ds n p due)
    (timed_from ds n left next snaps) (moments ds n left next) (last_events-tick t m due) (λ u. tick-same ds n left u next snaps)
