-- Ticks before the next completion, and the tick of the completion.
use Rattle.st_run.proofs.Common.{is_none, IfSome, ◌≡◌, ℕ, zero, suc, ◌+◌, ◌-◌, ◌<◌, ◌≤◌, ◌==◌, ◌^◌, true, false, List, Option, None, Some, refl, sym, ◌∙◌, ap, subst, arith, nat_tests, false_from_ne_true, Machine, interrupt, rests, IssueState, Overlap, state_ahead, oldest_row, interrupt_due, machine_between_ticks, is_done, machine_after_completion, row_done, machine_after_tick, machine_after_settling, machine_after_pass, after_ticks, IsPassed, ArePassed, RunsTo, Row, Signal, Together, IsBeforeEntry, IsMachineReady, at_completion, AreTicked, AreMade, last_for}
use Rattle.std.proofs.Common.{if◌then◌else◌}
use Rattle.st_ahead.proofs.Idling.{zero-comes}

-- the pending interrupt has been taken
pub ready-table : (o : Overlap) → IsMachineReady o → o.taken ≡ interrupt o.state
ready-table o h = ap {A = Overlap} (λ x. x.taken) h.between

pub ready-between : (o : Overlap) → IsMachineReady o → o ≡ machine_between_ticks o.delays o.levels o.state o.taken o.issue o.now
ready-between o h =
    h.between ∙ ap {A = Option ℕ} (λ k. machine_between_ticks o.delays o.levels o.state k o.issue o.now) (sym (ready-table o h))

-- the oldest row does not depend on the tick
pub row-same : (o : Overlap) (at : ℕ) → oldest_row (record o { now = at }) ≡ oldest_row o
unfolding oldest_row state_ahead
row-same o at = refl

-- no interrupt is due, since the pending one has been taken
none-due : (s : Machine) (t : Option ℕ) → t ≡ interrupt s → (if is_none t then interrupt s else None) ≡ None
none-due s None same = sym same
none-due s (Some i) same = refl

-- without external events, a settle leaves the tick unchanged
pub still-settled : (m : Overlap) → interrupt_due m ≡ None → rests m.state ≡ false → m.mispredicted ≡ None → machine_after_pass m ≡ machine_after_settling m
unfolding machine_after_settling
still-settled m due awake right = rw (due, awake, right) refl

-- a tick without a completion
between-passes : (ds : List ℕ) (n : ℕ) (s : Machine) (t : Option ℕ) (f : IssueState) (at : ℕ) → t ≡ interrupt s → rests s ≡ false
    → is_done (machine_between_ticks ds n s t f at) ≡ false
    → machine_after_settling (machine_after_tick (machine_between_ticks ds n s t f at)) ≡ machine_between_ticks ds n s t f (at + 1)
unfolding machine_after_tick machine_after_settling
between-passes ds n s t f at same awake late = rw (late, none-due s t same, awake) refl

pub tick-passes : (o m : Overlap) (at : ℕ) → IsMachineReady o → m ≡ record o { now = at } → is_done m ≡ false
    → machine_after_settling (machine_after_tick m) ≡ record o { now = at + 1 }
tick-passes o m at h same late =
    let between_at : (k : ℕ) → record o { now = k } ≡ machine_between_ticks o.delays o.levels o.state o.taken o.issue k =
    λ k. ap {A = Overlap} (λ q. record q { now = k }) (ready-between o h) in
    let is : m ≡ machine_between_ticks o.delays o.levels o.state o.taken o.issue at = same ∙ between_at at in
    ap {A = Overlap} (λ q. machine_after_settling (machine_after_tick q)) is
    ∙ between-passes o.delays o.levels o.state o.taken o.issue at (ready-table o h) h.awake (ap is_done (sym is) ∙ late)
    ∙ sym (between_at (at + 1))

-- the next entry completes at a later tick
apart : (c at : ℕ) → at ≤ c → (c == at) ≡ false → at + 1 ≤ c
apart c at le test = grind (arith, nat_tests)

together : (c at : ℕ) → (c == at) ≡ true → at ≡ c
together c at test = grind (arith, nat_tests)

pub tick-early : (o m : Overlap) (at : ℕ) → at ≤ (oldest_row o).c → m ≡ record o { now = at } → is_done m ≡ false
    → at + 1 ≤ (oldest_row o).c
tick-early o m at early same late =
    apart (oldest_row o).c at early
    (ap (λ r. r.c == at) (sym (row-same o at)) ∙ ap is_done (sym same) ∙ late)

-- several ticks without a completion that are skipped
pub idle-passes : (o : Overlap) (k at : ℕ) (new : Overlap) → IsMachineReady o → at ≤ (oldest_row o).c → ArePassed 0 k (record o { now = at }) new
    → (new ≡ record o { now = at + k }) × (at + k ≤ (oldest_row o).c)
unfolding after_ticks
idle-passes o zero at new h early idle =
    let same : at ≡ at + 0 = omega arith in (idle.after ∙ ap {A = ℕ} (λ x. record o { now = x }) same, omega arith)
idle-passes o (suc k) at new h early idle =
    let first : IsPassed 0 (record o { now = at }) = idle.each 0 (omega arith) in
    let late : is_done (record o { now = at }) ≡ false = false_from_ne_true (is_done (record o { now = at })) (λ done. zero-comes (machine_after_tick (record o { now = at })) (first.nothing done)) in
    let next : machine_after_settling (machine_after_tick (record o { now = at })) ≡ record o { now = at + 1 } = tick-passes o (record o { now = at }) at h refl late in
    let later : ArePassed 0 k (record o { now = at + 1 }) new = record {
      each = λ i before. subst (λ (m : Overlap). IsPassed 0 (after_ticks i m)) next (idle.each (suc i) (omega (arith, before)));
      after = idle.after ∙ ap {A = Overlap} (after_ticks k) next;
    } in
    let rest = idle-passes o k (at + 1) new h (tick-early o (record o { now = at }) at early refl late) later in
    let same : at + 1 + k ≡ at + suc k = omega arith in
    (rest.0 ∙ ap {A = ℕ} (λ x. record o { now = x }) same, omega (arith, rest.1))

-- the entry completes at this tick
pub tick-done : (o m : Overlap) (at : ℕ) → m ≡ record o { now = at } → is_done m ≡ true → at ≡ (oldest_row o).c
tick-done o m at same done =
    together (oldest_row o).c at
    (ap (λ r. r.c == at) (sym (row-same o at)) ∙ ap is_done (sym same) ∙ done)

pub done-completed : (o m : Overlap) (at : ℕ) → m ≡ record o { now = at } → is_done m ≡ true → machine_after_tick m ≡ machine_after_completion m
unfolding machine_after_tick
done-completed o m at same done = rw done refl

-- ---- up to the next completion or snapshot

until-late : (c now last : ℕ) (snap : Option ℕ) → c ≤ last → last ≡ last_for snap → IfSome snap (λ x. c ≤ x)
until-late c now last None soon is = tt
until-late c now last (Some x) soon is = omega (arith, soon, is)

until-made : (o new : Overlap) (last : ℕ) (snap : Option ℕ) → (oldest_row o).c < 2 ^ 63 → o.now ≤ (oldest_row o).c
    → last ≡ last_for snap → o.now + (last + 1 - o.now) ≤ (oldest_row o).c → IfSome snap (λ x. o.now - 1 ≤ x)
    → new ≡ record o { now = o.now + (last + 1 - o.now) } → AreTicked None snap o new
until-made o new last None in_time early is late from after = absurd (omega (arith, in_time, early, is, late))
until-made o new last (Some x) in_time early is late from after =
    let same : o.now + (last + 1 - o.now) ≡ x + 1 = omega (arith, in_time, early, is, late, from) in
    (omega (arith, same, late), after ∙ ap {A = ℕ} (λ k. record o { now = k }) same)

pub ticked-until : (o new : Overlap) (row : Option Row) (last : ℕ) (snap : Option ℕ) → IsMachineReady o → (oldest_row o).c < 2 ^ 63
    → IfSome snap (λ x. o.now - 1 ≤ x) → last ≡ last_for snap → RunsTo 0 last row o new → AreTicked row snap o new
ticked-until o new None last snap h in_time from is ran =
    let all = idle-passes o (last + 1 - o.now) o.now new h h.early ran in
    until-made o new last snap in_time h.early is all.1 from all.0
ticked-until o new (Some row) last snap h in_time from is ran =
    let all = idle-passes o ran.ticks o.now ran.before h h.early ran.passed in
    let at = o.now + ran.ticks in
    let same : at ≡ (oldest_row o).c = tick-done o ran.before at all.0 ran.done in
    let at_end : ran.before ≡ at_completion o = all.0 ∙ ap {A = ℕ} (λ k. record o { now = k }) same in
    let soon : (oldest_row o).c ≤ last = omega (arith, ran.soon, ap (λ (m : Overlap). m.now) at_end) in (
      until-late (oldest_row o).c o.now last snap soon is,
      ran.after ∙ done-completed o ran.before at all.0 ran.done ∙ ap {A = Overlap} machine_after_completion at_end,
      ran.row_is ∙ ap {A = Overlap} row_done at_end,
    )

-- the effect of ticks on the parts of a machine with its external events
pub made-until : (old : Together) (m new : Overlap) (xs : List Signal) (cards : List (List ℕ))
    → record { machine = m; signals = xs; cards = cards } ≡ old → IsBeforeEntry old → (oldest_row old.machine).c < 2 ^ 63
    → (snap : Option ℕ) → IfSome snap (λ x. old.machine.now - 1 ≤ x) → (last : ℕ) → last ≡ last_for snap
    → (row : Option Row) → RunsTo 0 last row m new → AreMade (AreTicked row snap) old (record { machine = new; signals = xs; cards = cards })
made-until old m new xs cards view before in_time snap from last is row ran =
    let machine : m ≡ old.machine = ap (λ (t : Together). t.machine) view in
    let ready : IsMachineReady old.machine = assumption in
    record {
      ticked = ticked-until old.machine new row last snap ready in_time from is (subst {A = Overlap} (λ o. RunsTo 0 last row o new) machine ran);
      kept = ap {A = Together} (λ (t : Together). record t { machine = new }) view;
    }
