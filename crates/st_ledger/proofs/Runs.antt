-- Lemmas on the charges of all rows of a run.
use Rattle.st_ledger.proofs.Common.{Bool, if◌then◌else◌, map, reverse, ◌≡◌, ℕ, ◌+◌, ◌≤◌, true, false, List, [], ◌∷◌, ◌++◌, length, refl, sym, ◌∙◌, ap, subst, append_assoc, arith, row_of_entry, issue_after_entry, Charge, Stage, Executing, ticks_for, Follow}
use Rattle.std.proofs.Common.{zero, suc}
use Rattle.st_prep.proofs.Choices.{of_choice}
use Rattle.st_exec.specs.Step.{rests, interrupt}
use Rattle.st_run.specs.Run.{PlainEvent, Ends, interlude, interrupts_by}
use Rattle.st_run.specs.Events.{Timed, drop_of, snapshot}
use Rattle.st_run.specs.Moments.{Moment, Standing, next_state, standing_at, entry_of_moment, next_row, next_moment, next_issue, next_segment, ends_segment, moments}
use Rattle.st_run.specs.Order.{last_completion}
use Rattle.st_run.specs.TimedRun.{event_at, ticks_before, snapshots_from, drops, drops_if_ends, happening_at, events_between, snapshot_at, last_snapshot_at, completion, until_done, last_events, timed_from}
use Rattle.st_run.specs.Course.{Course, course}
use Rattle.st_run.proofs.CourseLemmas.{timed-none, timed-step}
use Rattle.st_run.proofs.ShownLemmas.{last-append, last_events-tick}
use Rattle.st_ledger.specs.Ledger.{entries_from, charges_at, all_charges, all_costs, row_at, row_of_event, rows_told}
use Rattle.st_ledger.proofs.Rows.{row-follows, row-costs}

-- ---- lists

follow-append : (a b c : ℕ) (xs ys : List Charge) → Follow a b xs → Follow b c ys → Follow a c (xs ++ ys)
unfolding Follow
follow-append a b c [] ys h k = subst (λ t. Follow t c ys) (sym h) k
follow-append a b c (x ∷ xs) ys h k = (h.0, h.1, follow-append x.to b c xs ys h.2 k)

pub ticks_for-append : (s : Stage) (xs ys : List Charge) → ticks_for s (xs ++ ys) ≡ ticks_for s xs + ticks_for s ys
unfolding ticks_for
ticks_for-append s [] ys = omega arith
ticks_for-append s (x ∷ xs) ys = omega (arith, ticks_for-append s xs ys)

-- ---- moments

-- the issue state of a moment is that of the entry that has just completed
standing-late : (m : Moment) → m.issue.c ≡ m.tick → m.tick ≤ (next_issue m).c
unfolding next_issue
standing-late m at = of_choice (λ f. m.tick ≤ f.c) (ends_segment m) (next_segment m) m.issue (omega arith) (omega (arith, at))

next-at : (ds : List ℕ) (n : ℕ) (p : Standing) → (next_moment ds n p).issue.c ≡ (next_moment ds n p).tick
unfolding next_moment next_row row_of_entry issue_after_entry
next-at ds n p = refl

-- ---- the entries of a run

abbrev chosen : Bool → Moment → Course Moment → Course Moment
chosen ends m r = if ends then record { before = []; last = m } else record { before = m ∷ r.before; last = r.last }

entries-choice : (b : Bool) (m : Moment) (r : Course Moment)
    → map standing_at (chosen b m r).before
    ≡ (if b then [] else standing_at m ∷ map standing_at r.before)
entries-choice true m r = refl
entries-choice false m r = refl

pub entries-step : (ds : List ℕ) (n left : ℕ) (m : Moment)
    → entries_from ds n (suc left) m ≡ (if rests (next_state m) then [] else standing_at m ∷ entries_from ds n left (next_moment ds n (standing_at m)))
unfolding entries_from course
entries-step ds n left m = entries-choice (rests (next_state m)) m (moments ds n left (next_moment ds n (standing_at m)))

pub entries-none : (ds : List ℕ) (n : ℕ) (m : Moment) → entries_from ds n zero m ≡ []
unfolding entries_from course
entries-none ds n m = refl

-- ---- the charges of a run

charges-follow : (ds : List ℕ) (n : ℕ) (p : Standing) → p.tick ≤ p.issue.c → Follow p.tick (next_moment ds n p).tick (charges_at ds n p)
unfolding charges_at next_moment next_row
charges-follow ds n p early = row-follows ds n p.tick p.issue (entry_of_moment p) early

costs-at : (ds : List ℕ) (n : ℕ) (p : Standing) → p.tick ≤ p.issue.c → ticks_for Executing (charges_at ds n p) ≡ (entry_of_moment p).cost
unfolding charges_at next_row
costs-at ds n p early = row-costs ds n p.tick p.issue (entry_of_moment p) early

module _ (ds : List ℕ) (n : ℕ) where
  follow-end : (m : Moment) (snaps : List ℕ) (t : ℕ) → Follow m.tick (last_completion t (last_events m snaps)) []
  unfolding Follow
  follow-end m snaps t = sym (last_events-tick t m snaps)

  follow-if : (b : Bool) (t : ℕ) (m : Moment) (snaps : List ℕ) (turn rest : List Timed) (ps : List Standing)
      → Follow m.tick (last_completion (last_completion t turn) rest) (all_charges ds n ps)
      → Follow m.tick (last_completion t (if b then last_events m snaps else turn ++ rest)) (all_charges ds n (if b then [] else ps))
  unfolding all_charges
  follow-if true t m snaps turn rest ps h = follow-end m snaps t
  follow-if false t m snaps turn rest ps h = subst (λ c. Follow m.tick c (all_charges ds n ps)) (sym (last-append t turn rest)) h

  pub run-follows : (left : ℕ) (m : Moment) (snaps : List ℕ) (t : ℕ) → m.issue.c ≡ m.tick
      → Follow m.tick (last_completion t (timed_from ds n left m snaps)) (all_charges ds n (entries_from ds n left m))
  unfolding all_charges
  run-follows zero m snaps t at = rw (timed-none ds n m snaps, entries-none ds n m) (follow-end m (snapshots_from m.tick snaps) t)
  run-follows (suc left) m snaps t event_at =
      let p = standing_at m in
      let next = next_moment ds n p in
      let due = snapshots_from m.tick snaps in
      let turn = events_between m ++ until_done ds n p due in
      let rest = timed_from ds n left next snaps in
      let end = last_completion (last_completion t turn) rest in
      rw (timed-step ds n left m snaps, entries-step ds n left m)
      (follow-if (rests (next_state m)) t m due turn rest (p ∷ entries_from ds n left next)
      (follow-append m.tick next.tick end (charges_at ds n p) (all_charges ds n (entries_from ds n left next))
      (charges-follow ds n p (standing-late m event_at))
      (run-follows left next snaps (last_completion t turn) (next-at ds n p))))

  costs-if : (b : Bool) (ps : List Standing) → ticks_for Executing (all_charges ds n ps) ≡ all_costs ps
      → ticks_for Executing (all_charges ds n (if b then [] else ps)) ≡ all_costs (if b then [] else ps)
  unfolding all_charges all_costs ticks_for
  costs-if true ps h = refl
  costs-if false ps h = h

  pub run-costs : (left : ℕ) (m : Moment) → m.issue.c ≡ m.tick
      → ticks_for Executing (all_charges ds n (entries_from ds n left m)) ≡ all_costs (entries_from ds n left m)
  unfolding all_charges all_costs ticks_for
  run-costs zero m at = rw (entries-none ds n m) refl
  run-costs (suc left) m event_at =
      let p = standing_at m in
      let next = next_moment ds n p in
      let rest = entries_from ds n left next in
      let here = costs-at ds n p (standing-late m event_at) in
      let later = run-costs left next (next-at ds n p) in
      rw (entries-step ds n left m)
      (costs-if (rests (next_state m)) (p ∷ rest)
      (ticks_for-append Executing (charges_at ds n p) (all_charges ds n rest) ∙ omega (arith, here, later)))

-- ---- the rows of a run

rows-append : (xs ys : List Timed) → rows_told (xs ++ ys) ≡ rows_told xs ++ rows_told ys
unfolding rows_told
rows-append [] ys = refl
rows-append (x ∷ xs) ys =
    ap (λ rest. row_of_event x.event ++ rest) (rows-append xs ys)
    ∙ sym (append_assoc (row_of_event x.event) (rows_told xs) (rows_told ys))

rows-none : (xs ys : List Timed) → rows_told xs ≡ [] → rows_told (xs ++ ys) ≡ rows_told ys
rows-none xs ys none = rows-append xs ys ∙ ap (λ rows. rows ++ rows_told ys) none

-- events other than completions have no row
each-none : {A : Type 0} (f : A → Timed) (xs : List A) → ((x : A) → row_of_event (f x).event ≡ []) → rows_told (map f xs) ≡ []
unfolding rows_told
each-none f [] none = refl
each-none f (x ∷ xs) none = rw (none x) (each-none f xs none)

drops-none : (m : Moment) → rows_told (drops m) ≡ []
unfolding drops
drops-none m = each-none (λ a. event_at m.tick m.scene.machine (drop_of a)) (reverse m.dropped) (λ a. refl)

happenings-none : (m : Moment) (hs : List PlainEvent) → rows_told (map (happening_at m) hs) ≡ []
happenings-none m hs = each-none (happening_at m) hs (λ h. refl)

drops_if-none : (b : Bool) (m : Moment) → rows_told (if b then drops m else []) ≡ []
unfolding rows_told
drops_if-none true m = drops-none m
drops_if-none false m = refl

between-none : (m : Moment) → rows_told (events_between m) ≡ []
unfolding events_between
between-none m =
    let hs = (interlude m.scene).happened ++ interrupts_by (interrupt (next_state m)) (next_state m) in
    rows-none (drops_if_ends m) (map (happening_at m) hs) (drops_if-none (ends_segment m) m) ∙ happenings-none m hs

last-none : (m : Moment) (snaps : List ℕ) → rows_told (last_events m snaps) ≡ []
unfolding last_events rows_told
last-none m snaps =
    let came = map (happening_at m) (interlude m.scene).happened in
    let shows = map (last_snapshot_at m) (ticks_before (m.tick + 1) snaps) in
    let end = happening_at m (Ends (next_state m) (rests (next_state m))) in
    let first = rows-none (drops m) came (drops-none m) ∙ happenings-none m (interlude m.scene).happened in
    let more = rows-none (drops m ++ came) shows first
    ∙ each-none (last_snapshot_at m) (ticks_before (m.tick + 1) snaps) (λ x. refl) in
    rows-none (drops m ++ came ++ shows) (end ∷ []) more

done-row : (ds : List ℕ) (n : ℕ) (p : Standing) (snaps : List ℕ) → rows_told (until_done ds n p snaps) ≡ row_at ds n p ∷ []
unfolding until_done rows_told snapshot
done-row ds n p snaps =
    let due = ticks_before (next_moment ds n p).tick snaps in
    rows-none (map (snapshot_at ds n p) due) (completion ds n p ∷ []) (each-none (snapshot_at ds n p) due (λ x. snapshot-none ds n p x))
  where
    snapshot-none : (ds : List ℕ) (n : ℕ) (p : Standing) (x : ℕ) → row_of_event (snapshot_at ds n p x).event ≡ []
    snapshot-none ds n p x = refl

rows-if : (b : Bool) (ds : List ℕ) (n : ℕ) (m : Moment) (snaps : List ℕ) (events : List Timed) (ps : List Standing)
    → map (row_at ds n) ps ≡ rows_told events
    → map (row_at ds n) (if b then [] else ps) ≡ rows_told (if b then last_events m snaps else events)
rows-if true ds n m snaps events ps h = sym (last-none m snaps)
rows-if false ds n m snaps events ps h = h

pub run-rows : (ds : List ℕ) (n left : ℕ) (m : Moment) (snaps : List ℕ)
    → map (row_at ds n) (entries_from ds n left m) ≡ rows_told (timed_from ds n left m snaps)
run-rows ds n zero m snaps = rw (timed-none ds n m snaps, entries-none ds n m) (sym (last-none m (snapshots_from m.tick snaps)))
run-rows ds n (suc left) m snaps =
    let p = standing_at m in
    let next = next_moment ds n p in
    let due = snapshots_from m.tick snaps in
    let turn = events_between m ++ until_done ds n p due in
    let rest = timed_from ds n left next snaps in
    let here : rows_told turn ≡ row_at ds n p ∷ [] = rows-none (events_between m) (until_done ds n p due) (between-none m) ∙ done-row ds n p due in
    rw (timed-step ds n left m snaps, entries-step ds n left m)
    (rows-if (rests (next_state m)) ds n m due (turn ++ rest) (p ∷ entries_from ds n left next)
    (ap (λ rows. row_at ds n p ∷ rows) (run-rows ds n left next snaps)
    ∙ sym (rows-append turn rest ∙ ap (λ rows. rows ++ rows_told rest) here)))

-- ---- segments

pub segment-starts : (m : Moment) → ends_segment m ≡ true → (next_issue m).c ≡ m.tick + 1 + length m.dropped
unfolding next_issue
segment-starts m ends = rw ends refl
