-- The start of a run: interrupts are disabled, no event is pending and there are no orders.
use Rattle.st_run.proofs.Common.{map, slice_index, is_some, nat_lt, nat_le, if◌then◌else◌, All, ◌≡◌, ◌≢◌, ℕ, suc, ◌+◌, ◌-◌, ◌<◌, ◌≤◌, ◌^◌, Bool, false, ◌||◌, List, [], ◌∷◌, ◌++◌, length, Option, None, refl, sym, ◌∙◌, ap, subst, arith, le-ltb, All-nil, All-cons, All-head, All-tail, Machine, Order, interrupt, rests, Signal, Scene, with_due_signals, with_due_orders, with_wait, interlude, interrupts_by, if_due, Transition, uneventful, and_then, with_order, Reader, Printer, AreDelaysUpTo, opening_issue, idle_banks, Overlap, machine_at_start, machine_between_ticks, Timed, IsScene, Standing, moment_at_start, next_state, has_card, has_waited, ends_segment, next_segment, next_issue, standing_at, drops, happening_at, events_between, timed_behind, timed_run, AreRising, TimedReportedEvent, timed_reported_event, reported_events, Together, IsBeforeEntry, OutputQueue, queued_events, rest_of, IsRun, AreInTime, PendingEvents}
use Rattle.std.specs.List.Sorted.{IsStrictlyIncreasing}
use Rattle.st_run.proofs.CourseLemmas.{all-to-come}
use Rattle.st_run.proofs.ProgressLemmas.{Quiet, rest-quiet}
use Rattle.st_run.proofs.Turns.{timed-goes_on}
use Rattle.st_run.proofs.Bounds.{run-time}
use Rattle.st_run.proofs.RunLaws.{timed-done}
use Rattle.st_run.proofs.InterludeLemmas.{with_pending}
use Rattle.st_run.proofs.SignalLemmas.{wait-none, kept-while}
use Rattle.st_run.proofs.SceneLemmas.{signals-scene}
use Rattle.st_run.specs.declared.run_phase.RunPhase.TheVariants as turns

-- the machine with another scene
abbrev pub with_scene : Together → Scene → Together
with_scene t c = record {
  machine = record t.machine { state = c.machine };
  signals = c.signals;
  cards = c.cards;
}

-- ---- the machine after the signals that are due at the start

pub started : (m k : Overlap) (xs ys : List Signal) (cards : List (List ℕ)) (x : PendingEvents)
    → ((ts : List (List ℕ)) → with_due_signals (record { machine = m.state; signals = xs; cards = ts }) ≡ record { machine = k.state; signals = ys; cards = ts })
    → k ≡ record m { state = k.state } → x ≡ record { signals = ys; cards = cards }
    → with_pending k x ≡ with_scene (record { machine = m; signals = xs; cards = cards }) (with_due_signals (record { machine = m.state; signals = xs; cards = cards }))
started m k xs ys cards x came machine is =
    ap (with_pending k) is
    ∙ ap (λ (o : Overlap). record { machine = o; signals = ys; cards = cards }) machine
    ∙ sym (ap (with_scene (record { machine = m; signals = xs; cards = cards })) (came cards))

-- ---- signals keep the properties of the start

pub record IsIdle (s : Machine) : Type 0 where
  pub enabled : s.enabled ≡ false
  pub waiting : s.waiting ≡ false
  pub reader : s.reader ≡ None
  pub printer : s.printer ≡ None

signals-idle : (c : Scene) → IsIdle c.machine → IsIdle (with_due_signals c).machine
signals-idle c is =
    kept-while (λ d. IsIdle d.machine)
    (λ d x xs h. record { enabled = h.enabled; waiting = h.waiting; reader = h.reader; printer = h.printer })
    (λ s x. nat_le x.count s.done) c.signals c is

signals-cards : (c : Scene) → (with_due_signals c).cards ≡ c.cards
signals-cards c = kept-while (λ d. d.cards ≡ c.cards) (λ d x xs is. is) (λ s x. nat_le x.count s.done) c.signals c refl

idle-rests : (s : Machine) → IsIdle s → rests s ≡ false
idle-rests s is = rw is.waiting refl

idle-interrupt : (s : Machine) → IsIdle s → interrupt s ≡ None
idle-interrupt s is = rw is.enabled refl

-- ---- only signals can occur between the start and the first entry

orders-idle : (c : Scene) → IsIdle c.machine → with_due_orders c ≡ uneventful c
unfolding with_due_orders
orders-idle c is =
    ap {A = Option Order} (λ o. and_then (with_order Reader (if_due c.machine.done o) c)
    (λ e. with_order Printer (if_due e.machine.done e.machine.printer) e)) is.reader
    ∙ ap {A = Option Order} (λ o. and_then (uneventful c) (λ e. with_order Printer (if_due c.machine.done o) c)) is.printer

module _ (c : Scene) (is : IsIdle c.machine) where
  abbrev pub due : Scene
  due = with_due_signals c

  due-idle : IsIdle due.machine
  due-idle = signals-idle c is

  settled-idle : interlude c ≡ uneventful due
  unfolding interlude
  settled-idle =
      ap {A = Transition} (λ r. and_then r with_wait) (orders-idle due due-idle)
      ∙ ap {A = Transition} (λ r. and_then (uneventful due) (λ d. r)) (wait-none due (idle-rests due.machine due-idle))

  same-not_less : (n : ℕ) → nat_lt n n ≡ false
  same-not_less n = let le : n ≤ n = omega arith in le-ltb n n le

  no-card : has_card (moment_at_start c) ≡ false
  no-card =
      ap {A = Transition} (λ r. nat_lt (length r.scene.cards) (length c.cards)) settled-idle
      ∙ ap {A = List (List ℕ)} (λ xs. nat_lt (length xs) (length c.cards)) (signals-cards c)
      ∙ same-not_less (length c.cards)

  no-wait : has_waited (moment_at_start c) ≡ false
  no-wait = ap {A = Transition} (λ r. rests r.scene.machine) (orders-idle due due-idle) ∙ idle-rests due.machine due-idle

  no-interrupt : is_some (interrupt (next_state (moment_at_start c))) ≡ false
  no-interrupt =
      ap {A = Transition} (λ r. is_some (interrupt r.scene.machine)) settled-idle
      ∙ ap is_some (idle-interrupt due.machine due-idle)

  no-end : ends_segment (moment_at_start c) ≡ false
  unfolding ends_segment
  no-end =
      ap {A = Bool} (λ b. false || b || has_waited (moment_at_start c) || is_some (interrupt (next_state (moment_at_start c)))) no-card
      ∙ ap {A = Bool} (λ b. false || false || b || is_some (interrupt (next_state (moment_at_start c)))) no-wait
      ∙ ap {A = Bool} (λ b. false || false || false || b) no-interrupt

  abbrev pub first : Standing
  first = record { scene = due; tick = 0; issue = opening_issue idle_banks 0 }

  standing-idle : standing_at (moment_at_start c) ≡ first
  unfolding next_issue
  standing-idle =
      ap {A = Transition} (λ r. record (standing_at (moment_at_start c)) { scene = r.scene }) settled-idle
      ∙ ap {A = Bool} (λ b. record { scene = due; tick = 0; issue = if b then next_segment (moment_at_start c) else opening_issue idle_banks 0 }) no-end

  between-idle : events_between (moment_at_start c) ≡ []
  unfolding events_between
  between-idle =
      let m = moment_at_start c in
      ap {A = Bool} (λ b. (if b then drops m else []) ++ map (happening_at m)
      ((interlude c).happened ++ interrupts_by (interrupt (next_state m)) (next_state m))) no-end
      ∙ ap {A = Transition} (λ r. map (happening_at m) (r.happened ++ interrupts_by (interrupt r.scene.machine) r.scene.machine)) settled-idle
      ∙ ap {A = Option ℕ} (λ o. map (happening_at m) (interrupts_by o due.machine)) (idle-interrupt due.machine due-idle)

  awake-idle : rests (next_state (moment_at_start c)) ≡ false
  awake-idle = ap {A = Transition} (λ r. rests r.scene.machine) settled-idle ∙ idle-rests due.machine due-idle

  pub run-idle : (ds : List ℕ) (n budget : ℕ) (snaps : List ℕ) → budget ≢ 0
      → timed_run ds n budget c snaps ≡ timed_behind ds n (budget - 1) first snaps
  run-idle ds n budget snaps some =
      timed-goes_on ds n budget (moment_at_start c) snaps (all-to-come snaps) some awake-idle
      ∙ ap {A = List Timed} (λ xs. xs ++ timed_behind ds n (budget - 1) (standing_at (moment_at_start c)) snaps) between-idle
      ∙ ap {A = Standing} (λ p. timed_behind ds n (budget - 1) p snaps) standing-idle

-- ---- the bounds of the ticks

told-all : (P : TimedReportedEvent → Type 0) (xs : List Timed) → All (λ (x : Timed). P (timed_reported_event x)) xs → All P (reported_events xs)
unfolding reported_events
told-all P [] all = All-nil P
told-all P (x ∷ xs) all =
    All-cons P (timed_reported_event x) (reported_events xs) (All-head (λ (y : Timed). P (timed_reported_event y)) x xs all)
    (told-all P xs (All-tail (λ (y : Timed). P (timed_reported_event y)) x xs all))

pub run-in_time : (ds : List ℕ) (n budget : ℕ) (c : Scene) (snaps : List ℕ) → AreDelaysUpTo 255 ds → n ≤ 8 → IsScene c
    → c.machine.done ≡ 0 → budget ≤ 10000000 → AreInTime (reported_events (timed_run ds n budget c snaps))
run-in_time ds n budget c snaps are levels is none few =
    let timely = run-time 255 n ds are levels budget c snaps is in
    let less = timed-done ds n budget 10000000 (moment_at_start c) snaps (omega arith) in
    told-all (λ (y : TimedReportedEvent). (y.tick < 2 ^ 63) × (y.done < 2 ^ 63)) (timed_run ds n budget c snaps)
    (λ k d inside.
    let early = timely k d inside in
    let low = less k d inside in
    (omega (arith, early, low), omega (arith, low)))

-- ---- increasing ticks

rising-from : (t : ℕ) (xs : List ℕ) → IsStrictlyIncreasing xs → (0 < length xs → t ≤ slice_index xs 0) → AreRising t xs
unfolding AreRising
rising-from t [] up low = tt
rising-from t (x ∷ xs) up low =
    let same : (k : ℕ) → suc k + 1 ≡ suc (k + 1) = λ k. omega arith in (
      low (omega arith),
      rising-from (x + 1) xs
          (λ k inside. subst {A = ℕ} (λ j. slice_index xs k < slice_index (x ∷ xs) j) (same k) (up (suc k) (omega arith)))
          (λ some. let later = up 0 (omega arith) in omega (arith, later)),
    )

pub increasing-rises : (xs : List ℕ) → IsStrictlyIncreasing xs → AreRising 0 xs
increasing-rises xs up = rising-from 0 xs up (λ some. omega arith)

-- ---- the start of a run

abbrev pub opened : List ℕ → ℕ → Scene → Together
opened ds n c = record { machine = machine_at_start ds n c.machine; signals = c.signals; cards = c.cards }

-- no pending events
abbrev pub none : OutputQueue
none = record { drops = []; text = None; taken = None }

module _ (ds : List ℕ) (n : ℕ) (c : Scene) (idle : IsIdle c.machine) (is : IsScene c) where
  pub opened-before : 1 ≤ n → n ≤ 8 → AreDelaysUpTo 255 ds → IsBeforeEntry (with_scene (opened ds n c) (due c idle))
  opened-before some few are = record {
    kept = record { some = some; few = few; delays = are; scene = signals-scene (λ s x. nat_le x.count s.done) c is };
    ready = record {
      between =
          ap {A = Option ℕ} (λ k. machine_between_ticks ds n (due c idle).machine k (opening_issue idle_banks 0) 0)
          (sym (idle-interrupt (due c idle).machine (due-idle c idle)));
      awake = idle-rests (due c idle).machine (due-idle c idle);
      early = omega arith;
    };
  }

  pub none-quiet : Quiet none
  unfolding queued_events
  none-quiet s = refl

  pub start-told : (budget : ℕ) (snaps : List ℕ) → 1 ≤ budget
      → rest_of turns.Before (budget - 1) 0 snaps none (with_scene (opened ds n c) (due c idle))
      ≡ reported_events (timed_run ds n budget c snaps)
  start-told budget snaps some =
      rest-quiet turns.Before (budget - 1) 0 snaps none (with_scene (opened ds n c) (due c idle)) none-quiet
      ∙ ap reported_events (sym (run-idle c idle ds n budget snaps (omega arith)))

  pub start-run : (budget : ℕ) (snaps : List ℕ) → 1 ≤ n → n ≤ 8 → AreDelaysUpTo 255 ds → 1 ≤ budget → budget ≤ 10000000
      → c.machine.done ≡ 0 → IsStrictlyIncreasing snaps
      → IsRun turns.Before (budget - 1) 0 snaps none (with_scene (opened ds n c) (due c idle))
  start-run budget snaps some few are one most zero_done up = record {
    stands = (opened-before some few are, increasing-rises snaps up);
    taken = λ none. absurd (cc none);
    in_time =
        subst {A = List TimedReportedEvent} AreInTime (sym (start-told budget snaps one))
        (run-in_time ds n budget c snaps are few is zero_done most);
  }
