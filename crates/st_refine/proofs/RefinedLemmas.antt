-- The effect of each call on the state and on the levels.
use Rattle.st_refine.proofs.Common.{IsSome, if◌then◌else◌, ◌≡◌, ℕ, ◌+◌, ◌≤◌, Bool, true, false, List, [], ◌∷◌, length, inl, inr, Option, None, Some, refl, sym, subst, ◌∙◌, ap, arith, cases_Bool, eqb-true, cond_both, Machine, address_by, plan, state_after_execution, prediction, is_mispredicted, interrupt, rests, step, address, read_in, step-done, row_of_entry, opening_issue, issue_after_entry, entry, predictions, next_ahead, ahead, prepared_before, issue_behind, Ready, Ticked, Ended, Stopped, is_owed, has_ended, closing, Overlap, machine_at_start, state_ahead, with_counter, oldest_row, levels_of, interrupt_due, is_done, row_done, mispredicted_counter, machine_after_completion, machine_after_tick, drop_count, banks_left, machine_after_segment, run_ended, machine_after_pass, machine_after_settling, settled_by, answer, answer_by, read_in_by, dropped_by, MayServe, view_at_tick, Goes, Interrupt, Mispredicted, Waits, due-taken, IsReached, MayTick, row_before, IsUnwound, AddsOneAtMost}
use Rattle.st_segment.proofs.StepLemmas.{prediction-right, prediction-mispredicted}
use Rattle.st_ahead.proofs.Standing.{prediction-seen}
use Rattle.st_refine.proofs.LevelLists.{none-before, one-more, done-levels}
use Rattle.st_refine.proofs.Kept.{IsIdle, IsKept, idle-none, idle-of, fresh-of, has_completed, served, kept, kept-ended, seen-idle, ended-rest, quiet}
use Rattle.st_refine.proofs.SplitLemmas.{plan-address, shown-none}
use Rattle.st_ahead.proofs.Idling.{late-ticked}

-- ---- a tick

ticked-done : (m : Overlap) → is_done m ≡ true → machine_after_tick m ≡ machine_after_completion m
unfolding machine_after_tick
ticked-done m done = ap (λ b. if b then machine_after_completion m else record m { phase = Ticked }) done

completed-state : (m : Overlap) → (machine_after_completion m).state ≡ state_after_execution m.taken m.state
unfolding machine_after_completion
completed-state m = refl

completed-tick : (m : Overlap) → (view_at_tick (machine_after_completion m)).tick ≡ m.now
unfolding machine_after_completion view_at_tick
completed-tick m = refl

completed-behind : (m : Overlap) → (machine_after_completion m).mispredicted ≡ mispredicted_counter m
unfolding machine_after_completion
completed-behind m = refl

pub table-is : (m : Overlap) (made since : ℕ) → IsReached m made since → m.phase ≡ Ready → m.taken ≡ interrupt m.state
table-is m made since from settled = (idle-of m (kept from) settled).table

pub tick-state : (m : Overlap) (made since : ℕ) → IsReached m made since → MayTick m → is_done m ≡ true → (machine_after_tick m).state ≡ step m.state
unfolding step
tick-state m made since from may done =
    ap (λ (x : Overlap). x.state) (ticked-done m done) ∙ completed-state m
    ∙ ap (λ t. state_after_execution t m.state) (table-is m made since from may.ready)

-- the levels after the oldest one
completed-levels : (m : Overlap) → IsKept m → IsIdle m → is_done m ≡ true
    → levels_of m ≡ next_ahead m.delays m.levels m.taken m.state m.issue ∷ levels_of (machine_after_completion m)
unfolding levels_of machine_after_completion state_ahead oldest_row
completed-levels m is idle done =
    let ds = m.delays in
    let n = m.levels in
    let t = m.taken in
    let s = m.state in
    let same : state_ahead m ≡ s = seen-idle m idle.going idle.right in
    let g = issue_after_entry ds n m.issue (entry t s) in
    let due : (row_of_entry ds n m.issue (entry t s)).c ≡ m.now =
    ap (λ u. (row_of_entry ds n m.issue (entry t u)).c) (sym same) ∙ eqb-true (row_of_entry ds n m.issue (entry t (state_ahead m))).c m.now done in
    let next : with_counter (mispredicted_counter m) (state_after_execution t s) ≡ prediction t s =
    prediction-seen t s (state_after_execution t s) (is_mispredicted (plan s t) s) (mispredicted_counter m) refl refl refl
    (prediction-right t s is.machine is.indicator) (prediction-mispredicted t s is.machine is.indicator) in
    ap (λ u. prepared_before m.now (ahead ds n n t u m.issue)) same
    ∙ done-levels ds n m.now t s m.issue is.machine is.indicator is.some is.few due
    ∙ ap (λ u. next_ahead ds n t s m.issue ∷ prepared_before m.now (ahead ds n n None u g)) (sym next)
    ∙ ap (λ u. next_ahead ds n t s m.issue ∷ prepared_before m.now (ahead ds n n None (with_counter (mispredicted_counter m) (state_after_execution t s)) (issue_after_entry ds n m.issue (entry t u)))) (sym same)

pub tick-oldest : (m : Overlap) (made since : ℕ) → IsReached m made since → MayTick m → is_done m ≡ true
    → levels_of m ≡ next_ahead m.delays m.levels m.taken m.state m.issue ∷ levels_of (machine_after_tick m)
tick-oldest m made since from may done =
    let is = kept from in
    completed-levels m is (idle-of m is may.ready) done
    ∙ ap (λ (x : Overlap). next_ahead m.delays m.levels m.taken m.state m.issue ∷ levels_of x) (sym (ticked-done m done))

address-is : (t : Option ℕ) (s : Machine) → t ≡ interrupt s → (plan s t).place.address ≡ address s
unfolding address
address-is t s table = plan-address s t ∙ ap (λ i. address_by i s) table

pub tick-row : (m : Overlap) (made since : ℕ) → IsReached m made since → MayTick m → is_done m ≡ true
    → ((row_done m).number ≡ (step m.state).done) × ((row_done m).address ≡ address m.state) × ((row_done m).c ≡ (view_at_tick (machine_after_tick m)).tick)
tick-row m made since from may done = (
  sym (step-done m.state),
  address-is m.taken m.state (table-is m made since from may.ready),
  sym (completed-tick m) ∙ ap (λ (x : Overlap). (view_at_tick x).tick) (sym (ticked-done m done)),
)

pub tick-times : (m : Overlap) → is_done m ≡ true
    → ((row_done m).p ≡ (row_before 0 m).p) × ((row_done m).r ≡ (row_before 0 m).r) × ((row_done m).c ≡ (row_before 0 m).c)
unfolding oldest_row issue_behind predictions
tick-times m done = (refl, refl, sym (eqb-true (oldest_row m).c m.now done))

pub tick-mispredicted : (m : Overlap) → is_done m ≡ true → (machine_after_tick m).mispredicted ≡ mispredicted_counter m
tick-mispredicted m done = ap (λ (x : Overlap). x.mispredicted) (ticked-done m done) ∙ completed-behind m

passed-levels : (m : Overlap) → has_ended m.phase ≡ false → levels_of (record m { phase = Ticked }) ≡ levels_of m
unfolding levels_of state_ahead
passed-levels m going = rw going refl

pub tick-passed : (m : Overlap) → has_ended m.phase ≡ false → is_done m ≡ false → ((machine_after_tick m).state ≡ m.state) × (levels_of (machine_after_tick m) ≡ levels_of m)
tick-passed m going later = (
  ap (λ (x : Overlap). x.state) (late-ticked m later),
  ap levels_of (late-ticked m later) ∙ passed-levels m going,
)

-- ---- the result of a settle

pub goes-by : (due behind : Option ℕ) (resting : Bool) (m : Overlap) → answer_by due resting behind m ≡ Goes
    → (due ≡ None) × (resting ≡ false) × (behind ≡ None)
goes-by (Some i) behind resting m is = absurd (cc is)
goes-by None behind true m is = absurd (cc is)
goes-by None (Some h) false m is = absurd (cc is)
goes-by None None false m is = (refl, refl, refl)

-- an interrupt, with its result
pub taken-by : (due behind : Option ℕ) (resting : Bool) (m : Overlap) (i d ic k : ℕ) → answer_by due resting behind m ≡ Interrupt i d ic k
    → (due ≡ Some i) × (d ≡ m.state.done) × (ic ≡ m.state.ic) × (k ≡ drop_count m)
taken-by (Some j) behind resting m i d ic k is =
    let a : j ≡ i = cc is in
    let b : m.state.done ≡ d = cc is in
    let e : m.state.ic ≡ ic = cc is in
    let f : drop_count m ≡ k = cc is in
    (ap (λ x. Some x) a, sym b, sym e, sym f)
taken-by None behind true m i d ic k is = absurd (cc is)
taken-by None (Some h) false m i d ic k is = absurd (cc is)
taken-by None None false m i d ic k is = absurd (cc is)

pub mispredicted-by : (due behind : Option ℕ) (resting : Bool) (m : Overlap) (k : ℕ) → answer_by due resting behind m ≡ Mispredicted k
    → (due ≡ None) × (resting ≡ false) × IsSome behind × (k ≡ drop_count m)
mispredicted-by (Some j) behind resting m k is = absurd (cc is)
mispredicted-by None behind true m k is = absurd (cc is)
mispredicted-by None (Some h) false m k is = let f : drop_count m ≡ k = cc is in (refl, refl, refl, sym f)
mispredicted-by None None false m k is = absurd (cc is)

pub waits-by : (due behind : Option ℕ) (resting : Bool) (m : Overlap) → answer_by due resting behind m ≡ Waits → (due ≡ None) × (resting ≡ true)
waits-by (Some j) behind resting m is = absurd (cc is)
waits-by None behind true m is = (refl, refl)
waits-by None (Some h) false m is = absurd (cc is)
waits-by None None false m is = absurd (cc is)

-- ---- the segment continues

pub settled-goes : (m : Overlap) → (interrupt_due m ≡ None) × (rests m.state ≡ false) × (m.mispredicted ≡ None) → machine_after_settling m ≡ machine_after_pass m
unfolding machine_after_settling
settled-goes m why = rw (why.0, why.1, why.2) refl

passed-more : (m : Overlap) → m.mispredicted ≡ None → AddsOneAtMost (levels_of m) (levels_of (machine_after_pass m))
unfolding levels_of state_ahead
passed-more m right =
    let new = prepared_before (m.now + 1) (ahead m.delays m.levels m.levels m.taken m.state m.issue) in
    subst (λ s. AddsOneAtMost (prepared_before m.now (ahead m.delays m.levels m.levels m.taken s m.issue)) new) (same (has_ended m.phase) m.mispredicted right)
    (one-more m.delays m.levels m.now m.levels m.taken m.state m.issue)
  where
    same : (b : Bool) (h : Option ℕ) → h ≡ None → m.state ≡ (if b then m.state else with_counter h m.state)
    same true h none = refl
    same false None none = refl
    same false (Some h) none = absurd (cc none)

pub goes-more : (m : Overlap) → answer m ≡ Goes → AddsOneAtMost (levels_of m) (levels_of (machine_after_settling m))
unfolding answer
goes-more m is =
    let why = goes-by (interrupt_due m) m.mispredicted (rests m.state) m is in
    subst (λ (x : Overlap). AddsOneAtMost (levels_of m) (levels_of x)) (sym (settled-goes m why)) (passed-more m why.2)

-- ---- the segment ends

-- there are no levels if the P of the issue state is not before the tick
pub empty-levels : (m : Overlap) → m.now ≤ m.issue.p + 2 → levels_of m ≡ []
unfolding levels_of
empty-levels m early = none-before m.delays m.levels m.now m.levels m.taken (state_ahead m) m.issue early

unwound-by : (m : Overlap) → m.now ≤ m.issue.p + 2 → IsUnwound m
unwound-by m early =
    let none = empty-levels m early in
    record { levels = none; index = shown-none m (ap length none) }

ended-late : (m : Overlap) → IsKept m → has_completed m.phase ≡ true → m.now + 1 ≤ (machine_after_segment m).issue.p
ended-late m is some =
    let rest = ended-rest m in
    let fresh = fresh-of (machine_after_segment m) (kept-ended m is some) (rest.done) in
    omega (arith, rest.now, (fresh.start rest.ended).0)

unwound-ended : (m : Overlap) → IsKept m → has_completed m.phase ≡ true → IsUnwound (machine_after_segment m)
unwound-ended m is some = unwound-by (machine_after_segment m) (omega (arith, (ended-rest m).now, ended-late m is some))

unwound-stopped : (m : Overlap) → IsKept m → has_completed m.phase ≡ true → IsUnwound (run_ended m)
unwound-stopped m is some = unwound-by (run_ended m) (omega (arith, (ended-rest m).now, ended-late m is some))

unwound-passed : (m : Overlap) (t : Option ℕ) → IsKept m → has_completed m.phase ≡ true → IsUnwound (machine_after_pass (record (machine_after_segment m) { taken = t }))
unwound-passed m t is some = unwound-by (machine_after_pass (record (machine_after_segment m) { taken = t })) (omega (arith, (ended-rest m).now, ended-late m is some))

dropped-is : (m : Overlap) → IsKept m → has_completed m.phase ≡ true → drop_count m ≡ length (levels_of m)
unfolding drop_count
dropped-is m is some =
    let fresh = fresh-of m is some in
    by-end (has_ended m.phase) (λ over. let none = empty-levels m (omega (arith, (fresh.start over).0)) in ap length none)
  where
    by-end : (b : Bool) → (b ≡ true → length (levels_of m) ≡ 0) → (if b then 0 else length (levels_of m)) ≡ length (levels_of m)
    by-end true none = sym (none refl)
    by-end false none = refl

-- if a settle takes an interrupt, an entry completed at this tick
closing-due : (m : Overlap) (i : ℕ) → IsKept m → interrupt_due m ≡ Some i → has_completed m.phase ≡ true
closing-due m i is due = elim (cases_Bool (has_completed m.phase)) [
  | inr none ↦ let idle : IsIdle m = idle-none m is none in absurd (cc (sym due ∙ quiet m idle))
  | inl some ↦ some
]

none-some : (o : Option ℕ) → o ≡ None → IsSome o → ⊥
none-some None none some = cc some
none-some (Some h) none some = cc none

closing-mispredicted : (m : Overlap) → IsKept m → IsSome m.mispredicted → has_completed m.phase ≡ true
closing-mispredicted m is mispredicted = elim (cases_Bool (has_completed m.phase)) [
  | inr none ↦ let idle : IsIdle m = idle-none m is none in
      absurd (none-some m.mispredicted idle.right mispredicted)
  | inl some ↦ some
]

closing-rests : (m : Overlap) → IsKept m → rests m.state ≡ true → has_completed m.phase ≡ true
closing-rests m is resting = elim (cases_Bool (has_completed m.phase)) [
  | inr none ↦ let idle : IsIdle m = idle-none m is none in absurd (cc (sym resting ∙ idle.awake))
  | inl some ↦ some
]

pub settled-taken : (m : Overlap) (i : ℕ) → interrupt_due m ≡ Some i → machine_after_settling m ≡ machine_after_pass (record (machine_after_segment m) { taken = Some i })
unfolding machine_after_settling
settled-taken m i due = ap (λ t. settled_by t (rests m.state) m.mispredicted m) due

pub interrupt-unwinds : (m : Overlap) (made since i d ic k : ℕ) → IsReached m made since → is_owed m.phase ≡ true → answer m ≡ Interrupt i d ic k
    → (interrupt m.state ≡ Some i) × (d ≡ m.state.done) × (ic ≡ m.state.ic) × (k ≡ length (levels_of m)) × ((machine_after_settling m).taken ≡ Some i)
    × IsUnwound (machine_after_settling m)
unfolding answer
interrupt-unwinds m made since i d ic k from owed is =
    let kept_is = kept from in
    let told = taken-by (interrupt_due m) m.mispredicted (rests m.state) m i d ic k is in
    let some = closing-due m i kept_is told.0 in
    let after_it = settled-taken m i told.0 in (
      (due-taken m i told.0).1,
      told.1,
      told.2,
      told.3 ∙ dropped-is m kept_is some,
      ap (λ (x : Overlap). x.taken) after_it,
      subst IsUnwound (sym after_it) (unwound-passed m (Some i) kept_is some),
    )

pub settled-mispredicted : (m : Overlap) (behind : Option ℕ) → interrupt_due m ≡ None → rests m.state ≡ false → IsSome behind
    → settled_by (interrupt_due m) (rests m.state) behind m ≡ machine_after_pass (machine_after_segment m)
settled-mispredicted m None due goes mispredicted = absurd (cc mispredicted)
settled-mispredicted m (Some h) due goes mispredicted = rw (due, goes) refl

pub mispredicted-unwinds : (m : Overlap) (made since k : ℕ) → IsReached m made since → is_owed m.phase ≡ true → answer m ≡ Mispredicted k
    → (k ≡ length (levels_of m)) × IsUnwound (machine_after_settling m)
unfolding answer machine_after_settling
mispredicted-unwinds m made since k from owed is =
    let kept_is = kept from in
    let told = mispredicted-by (interrupt_due m) m.mispredicted (rests m.state) m k is in
    let some = closing-mispredicted m kept_is told.2 in
    let after_it = settled-mispredicted m m.mispredicted told.0 told.1 told.2 in (
      told.3 ∙ dropped-is m kept_is some,
      subst IsUnwound (sym after_it) (unwound-passed m (machine_after_segment m).taken kept_is some),
    )

pub waits-unwinds : (m : Overlap) (made since : ℕ) → IsReached m made since → is_owed m.phase ≡ true → answer m ≡ Waits
    → (rests m.state ≡ true) × IsUnwound (machine_after_settling m)
unfolding answer machine_after_settling
waits-unwinds m made since from owed is =
    let kept_is = kept from in
    let told = waits-by (interrupt_due m) m.mispredicted (rests m.state) m is in
    let some = closing-rests m kept_is told.1 in
    let after_it : settled_by (interrupt_due m) (rests m.state) m.mispredicted m ≡ machine_after_segment m = rw (told.0, told.1) refl in
    (told.1, subst IsUnwound (sym after_it) (unwound-ended m kept_is some))

-- the number of levels to flush, if the segment has not ended before
dropped-going : (m : Overlap) → has_ended m.phase ≡ false → drop_count m ≡ length (levels_of m)
unfolding drop_count
dropped-going m going =
    cond_both (has_ended m.phase) 0 (length (levels_of m)) (λ k. k ≡ length (levels_of m)) (λ over. absurd (cc (sym over ∙ going))) (λ on. refl)

unwound-going : (m : Overlap) → has_ended m.phase ≡ false → IsUnwound (run_ended m)
unfolding machine_after_segment
unwound-going m going =
    let m' = record m { issue = opening_issue (banks_left (closing m.phase)) (m.now + 1 + length (levels_of m)); phase = Ended } in
    cond_both (has_ended m.phase) m m' (λ (x : Overlap). IsUnwound (record x { phase = Stopped })) (λ over. absurd (cc (sym over ∙ going))) (λ on. unwound-by (record m' { phase = Stopped }) (omega arith))

pub stop-unwinds : (m : Overlap) (made since : ℕ) → IsReached m made since → is_owed m.phase ≡ true
    → ((run_ended m).state ≡ m.state) × (drop_count m ≡ length (levels_of m)) × IsUnwound (run_ended m)
stop-unwinds m made since from owed =
    let is = kept from in
    elim (cases_Bool (has_completed m.phase)) [
      | inr none ↦ let idle : IsIdle m = idle-none m is none in
          ((ended-rest m).state, dropped-going m idle.going, unwound-going m idle.going)
      | inl some ↦ ((ended-rest m).state, dropped-is m is some, unwound-stopped m is some)
    ]

pub card-unwinds : (m : Overlap) (made since w : ℕ) (card : List ℕ) → IsReached m made since → MayServe m
    → (dropped_by (Some card) m ≡ length (levels_of m)) × IsUnwound (read_in_by w (Some card) m)
card-unwinds m made since w card from may =
    let is = kept from in (
      dropped-is m is (served m.phase may),
      unwound-by (record (machine_after_segment m) { state = read_in m.state w (Some card) }) (omega (arith, (ended-rest m).now, ended-late m is (served m.phase may))),
    )

pub start-unwound : (ds : List ℕ) (n : ℕ) (s : Machine) → IsUnwound (machine_at_start ds n s)
start-unwound ds n s = unwound-by (machine_at_start ds n s) (omega arith)
