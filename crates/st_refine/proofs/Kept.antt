-- The invariant of a machine is kept by each call within the protocol.
use Rattle.st_refine.proofs.Common.{IfSome, IsSome, is_none, ◌&&◌, if◌then◌else◌, ◌≡◌, ℕ, zero, suc, ◌+◌, ◌<◌, ◌≤◌, ◌^◌, Bool, true, false, List, length, inl, inr, Option, None, Some, refl, sym, subst, ◌∙◌, ap, arith, cases_Bool, eqb-true, eqb-false, cond_both, Machine, IsMachine, word, state_with_signal, pending, is_pending, first_from, Order, plan, plan-prepared, interrupt, rests, read_in, printed_out, kept-completed, LastAnswers, AreDelaysUpTo, row_of_entry, opening_issue, issue_after_entry, entry, Phase, Ready, Ticked, Completed, Ended, Stopped, is_owed, has_ended, closing, Overlap, machine_at_start, state_ahead, with_counter, oldest_entry, oldest_row, levels_of, interrupt_due, may_settle, may_serve, is_done, machine_after_completion, machine_after_tick, banks_left, machine_after_segment, machine_after_pass, machine_after_settling, settled_by, signalled_by, read_in_by, MaySignal, MayServe, due-taken, CanStart, IsCard, IsReached, Starts, Ticks, Settles, Signals, Reads, Prints, Stops, after-c}
use Rattle.st_prep.proofs.Choices.{of_choice}
use Rattle.st_refine.proofs.StateLemmas.{signalled-machine, order-machine, printed-machine}
use Rattle.st_refine.proofs.LevelLists.{done-behind}

-- ---- the invariant

-- the number of ticks made
abbrev pub ticks_made : Overlap → ℕ
ticks_made m = if is_owed m.phase then m.now + 1 else m.now

-- the completion tick of the next entry of the state
abbrev pub next_row : Overlap → ℕ
next_row m = (row_of_entry m.delays m.levels m.issue (entry m.taken m.state)).c

-- no entry completed at this tick, or the tick is settled
pub record IsIdle (m : Overlap) : Type 0 where
  pub table : m.taken ≡ interrupt m.state
  pub awake : rests m.state ≡ false
  pub going : has_ended m.phase ≡ false
  pub right : m.mispredicted ≡ None
  pub early : ticks_made m ≤ next_row m
  pub unstarted : m.phase ≡ Ready → m.now ≡ 0 → (m.state.enabled ≡ false) × (m.state.waiting ≡ false)

-- an entry completed at this tick, which is not settled
pub record IsFresh (m : Overlap) : Type 0 where
  pub owed : is_owed m.phase ≡ true
  pub none : m.taken ≡ None
  pub last : has_ended m.phase ≡ false → m.issue.c ≡ m.now
  pub start : has_ended m.phase ≡ true → (m.now + 1 ≤ m.issue.p) × (m.now + 1 ≤ m.issue.c)

-- whether an entry completed at the last tick, and the next one is not ready
abbrev pub has_completed : Phase → Bool
has_completed Ready = false
has_completed Ticked = false
has_completed (Completed banks) = true
has_completed Ended = true
has_completed Stopped = true

abbrev pub IsPhase : Bool → Overlap → Type 0
IsPhase false m = IsIdle m
IsPhase true m = IsFresh m

pub record IsKept (m : Overlap) : Type 0 where
  pub some : 1 ≤ m.levels
  pub few : m.levels ≤ 8
  pub delays : AreDelaysUpTo 255 m.delays
  pub machine : IsMachine m.state
  pub indicator : IfSome m.taken (λ i. i < 64)
  pub counter : IfSome m.mispredicted (λ h. h < 2 ^ 19)
  pub phase : IsPhase (has_completed m.phase) m

-- ---- phases

pub idle-none : (m : Overlap) → IsKept m → has_completed m.phase ≡ false → IsIdle m
idle-none m is none = subst (λ b. IsPhase b m) none is.phase

pub idle-of : (m : Overlap) → IsKept m → m.phase ≡ Ready → IsIdle m
idle-of m is ready = idle-none m is (ap has_completed ready)

pub fresh-of : (m : Overlap) → IsKept m → has_completed m.phase ≡ true → IsFresh m
fresh-of m is some = subst (λ b. IsPhase b m) some is.phase

-- if an order may take effect, an entry completed
pub served : (p : Phase) → may_serve p ≡ true → has_completed p ≡ true
served p may = grind arith

-- if the decision may be made, it is owed
pub settling : (p : Phase) → may_settle p ≡ true → is_owed p ≡ true
settling p may = grind arith

ended-owed : (p : Phase) → has_ended p ≡ true → (is_owed p ≡ true) × (has_completed p ≡ true)
ended-owed p over = grind arith

-- the banks are known until the segment ends
pub closing-some : (p : Phase) → has_completed p ≡ true → has_ended p ≡ false → IsSome (closing p)
closing-some p some going = grind arith

pub closing-of : (p : Phase) (banks : LastAnswers) → closing p ≡ Some banks → (has_completed p ≡ true) × (has_ended p ≡ false)
closing-of p banks known = grind arith

-- ---- states

pub first_from-below : (p : ℕ → Bool) (i n : ℕ) → IfSome (first_from p i n) (λ k. k < i + n)
unfolding first_from
first_from-below p i zero = tt
first_from-below p i (suc n) =
    of_choice (λ o. IfSome o (λ k. k < i + suc n)) (p i) (Some i) (first_from p (i + 1) n) (omega arith)
    (some-later (first_from p (i + 1) n) (i + 1 + n) (i + suc n) (omega arith) (first_from-below p (i + 1) n))
  where
    some-later : (o : Option ℕ) (a b : ℕ) → a ≤ b → IfSome o (λ k. k < a) → IfSome o (λ k. k < b)
    some-later None a b le below = tt
    some-later (Some k) a b le below = omega arith

pub interrupt-below : (s : Machine) → IfSome (interrupt s) (λ i. i < 64)
interrupt-below s =
    of_choice (λ o. IfSome o (λ i. i < 64)) s.enabled (pending s) None
    (first_from-below (is_pending (word s 11) (word s 12)) 0 64) tt

-- a state in which an interrupt is due is not at rest
awake-by : (enabled waiting : Bool) (p : Option ℕ) (i : ℕ) → (if enabled then p else None) ≡ Some i → (waiting && is_none p) ≡ false
awake-by true true (Some j) i due = refl
awake-by true false (Some j) i due = refl
awake-by true waiting None i due = absurd (cc due)
awake-by false waiting p i due = absurd (cc due)

due-awake : (s : Machine) (i : ℕ) → interrupt s ≡ Some i → rests s ≡ false
due-awake s i due = awake-by s.enabled s.waiting (pending s) i due

-- with interrupts disabled and no wait
off-interrupt : (enabled : Bool) (p : Option ℕ) → enabled ≡ false → (if enabled then p else None) ≡ None
off-interrupt true p is = absurd (cc is)
off-interrupt false p is = refl

off-rests : (waiting : Bool) (p : Option ℕ) → waiting ≡ false → (waiting && is_none p) ≡ false
off-rests true p is = absurd (cc is)
off-rests false p is = refl

-- no interrupt is due
due-none : (t p : Option ℕ) → (if is_none t then p else None) ≡ None → t ≡ None → t ≡ p
due-none None p due none = sym due
due-none (Some i) p due none = absurd (cc none)

-- ---- the start

pub kept-started : (ds : List ℕ) (n : ℕ) (s : Machine) → CanStart ds n s → IsKept (machine_at_start ds n s)
kept-started ds n s can = record {
  some = can.some;
  few = can.few;
  delays = can.delays;
  machine = can.machine;
  indicator = tt;
  counter = tt;
  phase = record {
    table = sym (off-interrupt s.enabled (pending s) can.enabled);
    awake = off-rests s.waiting (pending s) can.waiting;
    going = refl;
    right = refl;
    early = omega arith;
    unstarted = λ settled first. (can.enabled, can.waiting);
  };
}

-- ---- a tick

seen-by : (over : Bool) (behind : Option ℕ) (s : Machine) → over ≡ false → behind ≡ None → (if over then s else with_counter behind s) ≡ s
seen-by over None s going right = of_choice (λ u. u ≡ s) over s s refl refl
seen-by over (Some h) s going right = absurd (cc right)

pub seen-idle : (m : Overlap) → has_ended m.phase ≡ false → m.mispredicted ≡ None → state_ahead m ≡ m.state
unfolding state_ahead
seen-idle m going right = seen-by (has_ended m.phase) m.mispredicted m.state going right

-- the row of the oldest entry is that of the next entry of the state
pub row-idle : (m : Overlap) → IsIdle m → (oldest_row m).c ≡ next_row m
unfolding oldest_row
row-idle m is = ap (λ s. (row_of_entry m.delays m.levels m.issue (entry m.taken s)).c) (seen-idle m is.going is.right)

mispredicted-by : (b : Bool) (h : ℕ) → h < 2 ^ 19 → IfSome (if b then Some h else None) (λ i. i < 2 ^ 19)
mispredicted-by true h below = below
mispredicted-by false h below = tt

pub made-settled : (p : Phase) (now : ℕ) → p ≡ Ready → (if is_owed p then now + 1 else now) ≡ now
made-settled p now is = rw is refl

pub made-owed : (p : Phase) (now : ℕ) → is_owed p ≡ true → (if is_owed p then now + 1 else now) ≡ now + 1
made-owed p now is = rw is refl

pub after-oldest : (m : Overlap) → (issue_after_entry m.delays m.levels m.issue (oldest_entry m)).c ≡ (oldest_row m).c
unfolding oldest_row
after-oldest m = after-c m.delays m.levels m.issue (oldest_entry m)

pub kept-ticked : (m : Overlap) → IsKept m → m.phase ≡ Ready → IsKept (machine_after_tick m)
unfolding machine_after_tick machine_after_completion
kept-ticked m is settled =
    let idle : IsIdle m = idle-of m is settled in
    let c = row-idle m idle in
    let now : ticks_made m ≡ m.now = made-settled m.phase m.now settled in
    let p = plan-prepared m.state m.taken is.machine is.indicator in
    cond_both (is_done m) (machine_after_completion m) (record m { phase = Ticked }) IsKept
    (λ done.
    let due : (oldest_row m).c ≡ m.now = eqb-true (oldest_row m).c m.now done in
    record {
      some = is.some;
      few = is.few;
      delays = is.delays;
      machine = kept-completed (plan m.state m.taken) m.state p is.machine;
      indicator = tt;
      counter = mispredicted-by _ (plan m.state m.taken).following p.following;
      phase = record {
        owed = refl;
        none = refl;
        last = λ going. after-oldest m ∙ due;
        start = λ over. absurd (cc over);
      };
    })
    (λ not_done.
    let other : (oldest_row m).c ≡ m.now → ⊥ = eqb-false (oldest_row m).c m.now not_done in
    record {
      some = is.some;
      few = is.few;
      delays = is.delays;
      machine = is.machine;
      indicator = is.indicator;
      counter = is.counter;
      phase = record {
        table = idle.table;
        awake = idle.awake;
        going = refl;
        right = idle.right;
        early = omega (arith, idle.early, now, c, other);
        unstarted = λ owed first. absurd (cc owed);
      };
    })

-- ---- the end of a segment

pub kept-ended : (m : Overlap) → IsKept m → has_completed m.phase ≡ true → IsKept (machine_after_segment m)
unfolding machine_after_segment
kept-ended m is some =
    let fresh = fresh-of m is some in
    cond_both (has_ended m.phase) m (record m { issue = opening_issue (banks_left (closing m.phase)) (m.now + 1 + length (levels_of m)); phase = Ended }) IsKept
    (λ over. is)
    (λ going. record {
      some = is.some;
      few = is.few;
      delays = is.delays;
      machine = is.machine;
      indicator = is.indicator;
      counter = is.counter;
      phase = record {
        owed = refl;
        none = fresh.none;
        last = λ again. absurd (cc again);
        start = λ over. (omega arith, omega arith);
      };
    })

-- the machine after the end of a segment
pub record IsEnded (m e : Overlap) : Type 0 where
  pub delays : e.delays ≡ m.delays
  pub levels : e.levels ≡ m.levels
  pub state : e.state ≡ m.state
  pub taken : e.taken ≡ m.taken
  pub behind : e.mispredicted ≡ m.mispredicted
  pub now : e.now ≡ m.now
  pub owed : is_owed e.phase ≡ true
  pub ended : has_ended e.phase ≡ true
  pub done : has_completed e.phase ≡ true

pub ended-rest : (m : Overlap) → IsEnded m (machine_after_segment m)
unfolding machine_after_segment
ended-rest m =
    cond_both (has_ended m.phase) m (record m { issue = opening_issue (banks_left (closing m.phase)) (m.now + 1 + length (levels_of m)); phase = Ended }) (IsEnded m)
    (λ over. record {
      delays = refl;
      levels = refl;
      state = refl;
      taken = refl;
      behind = refl;
      now = refl;
      owed = (ended-owed m.phase over).0;
      ended = over;
      done = (ended-owed m.phase over).1;
    })
    (λ going. record { delays = refl; levels = refl; state = refl; taken = refl; behind = refl; now = refl; owed = refl; ended = refl; done = refl })

-- the machine after the end of a run
kept-stopped : (m : Overlap) → IsKept m → has_completed m.phase ≡ true → has_ended m.phase ≡ true → IsKept (record m { phase = Stopped })
kept-stopped m is some over =
    let fresh = fresh-of m is some in
    record {
      some = is.some;
      few = is.few;
      delays = is.delays;
      machine = is.machine;
      indicator = is.indicator;
      counter = is.counter;
      phase = record { owed = refl; none = fresh.none; last = λ going. absurd (cc going); start = λ again. fresh.start over };
    }

-- ---- a settle

-- the machine after a tick passes
kept-passed : (m : Overlap) → 1 ≤ m.levels → m.levels ≤ 8 → AreDelaysUpTo 255 m.delays → IsMachine m.state → m.taken ≡ interrupt m.state
    → rests m.state ≡ false → m.now ≤ m.issue.c → IsKept (machine_after_pass m)
kept-passed m some few delays machine table awake late =
    let below : IfSome m.taken (λ i. i < 64) = subst (λ t. IfSome t (λ i. i < 64)) (sym table) (interrupt-below m.state) in
    record {
      some = some;
      few = few;
      delays = delays;
      machine = machine;
      indicator = below;
      counter = tt;
      phase = record {
        table = table;
        awake = awake;
        going = refl;
        right = refl;
        early = omega (arith, late, done-behind m.delays m.levels m.taken m.state m.issue machine below);
        unstarted = λ settled first. absurd (omega (arith, first));
      };
    }

-- after a completion, the C of the issue state, or a later opening, is not before the tick
pub late-fresh : (m : Overlap) → IsFresh m → (b : Bool) → has_ended m.phase ≡ b → m.now ≤ m.issue.c
late-fresh m fresh true over = omega (arith, (fresh.start over).1)
late-fresh m fresh false going = omega (arith, fresh.last going)

-- the machine after the tick of a completion passes
kept-passed_fresh : (m : Overlap) (t : Option ℕ) → IsKept m → has_completed m.phase ≡ true → t ≡ interrupt m.state → rests m.state ≡ false
    → IsKept (machine_after_pass (record m { taken = t }))
kept-passed_fresh m t is some table awake =
    kept-passed (record m { taken = t }) is.some is.few is.delays is.machine table awake (late-fresh m (fresh-of m is some) (has_ended m.phase) refl)

-- the machine after the tick of a completion passes, in the state before the end of a segment
kept-passed_ended : (m : Overlap) (t : Option ℕ) → IsKept m → has_completed m.phase ≡ true → t ≡ interrupt m.state → rests m.state ≡ false
    → IsKept (machine_after_pass (record (machine_after_segment m) { taken = t }))
kept-passed_ended m t is some table awake =
    let rest = ended-rest m in
    kept-passed_fresh (machine_after_segment m) t (kept-ended m is some) (rest.done) (table ∙ ap interrupt (sym rest.state))
    (ap rests rest.state ∙ awake)

none-due : (t p : Option ℕ) → (if is_none t then p else None) ≡ None → t ≡ None → p ≡ None
none-due None p due none = due
none-due (Some i) p due none = absurd (cc none)

same-taken : (m : Overlap) (t : Option ℕ) → m.taken ≡ t → IsKept (machine_after_pass (record m { taken = t })) → IsKept (machine_after_pass m)
same-taken m t same is = subst (λ i. IsKept (machine_after_pass (record m { taken = i }))) (sym same) is

settled-fresh : (due behind : Option ℕ) (resting : Bool) (m : Overlap) → IsKept m → has_completed m.phase ≡ true → interrupt_due m ≡ due → rests m.state ≡ resting
    → IsKept (settled_by due resting behind m)
settled-fresh (Some i) behind resting m is some due goes =
    let taken = due-taken m i due in
    kept-passed_ended m (Some i) is some (sym taken.1) (due-awake m.state i taken.1)
settled-fresh None behind true m is some due goes = kept-ended m is some
settled-fresh None (Some h) false m is some due goes =
    let fresh = fresh-of m is some in
    let none : None ≡ interrupt m.state = sym (none-due m.taken (interrupt m.state) due fresh.none) in
    same-taken (machine_after_segment m) None ((ended-rest m).taken ∙ fresh.none) (kept-passed_ended m None is some none goes)
settled-fresh None None false m is some due goes =
    let fresh = fresh-of m is some in
    let none : None ≡ interrupt m.state = sym (none-due m.taken (interrupt m.state) due fresh.none) in
    same-taken m None fresh.none (kept-passed_fresh m None is some none goes)

-- nothing is due if no entry completed
quiet-by : (t p : Option ℕ) → t ≡ p → (if is_none t then p else None) ≡ None
quiet-by None p same = sym same
quiet-by (Some i) p same = refl

pub quiet : (m : Overlap) → IsIdle m → interrupt_due m ≡ None
quiet m idle = quiet-by m.taken (interrupt m.state) idle.table

pub settled-idle_is : (m : Overlap) → IsIdle m → machine_after_settling m ≡ machine_after_pass m
unfolding machine_after_settling
settled-idle_is m idle = rw (quiet m idle, idle.awake, idle.right) refl

settled-idle : (m : Overlap) → IsKept m → IsIdle m → is_owed m.phase ≡ true → IsKept (machine_after_pass m)
settled-idle m is idle owed =
    let made : ticks_made m ≡ m.now + 1 = made-owed m.phase m.now owed in
    record {
      some = is.some;
      few = is.few;
      delays = is.delays;
      machine = is.machine;
      indicator = is.indicator;
      counter = tt;
      phase = record {
        table = idle.table;
        awake = idle.awake;
        going = refl;
        right = refl;
        early = omega (arith, idle.early, made);
        unstarted = λ settled first. absurd (omega (arith, first));
      };
    }

pub kept-settled : (m : Overlap) → IsKept m → is_owed m.phase ≡ true → IsKept (machine_after_settling m)
unfolding machine_after_settling
kept-settled m is owed = elim (cases_Bool (has_completed m.phase)) [
  | inr none ↦ let idle : IsIdle m = idle-none m is none in subst IsKept (sym (settled-idle_is m idle)) (settled-idle m is idle owed)
  | inl some ↦ settled-fresh (interrupt_due m) m.mispredicted (rests m.state) m is some refl refl
]

-- ---- external events

-- only the state changes, after a tick with a completion
pub kept-changed : (m : Overlap) (u : Machine) → IsKept m → has_completed m.phase ≡ true → IsMachine u → IsKept (record m { state = u })
kept-changed m u is some machine =
    let fresh = fresh-of m is some in
    record {
      some = is.some;
      few = is.few;
      delays = is.delays;
      machine = machine;
      indicator = is.indicator;
      counter = is.counter;
      phase = subst (λ b. IsPhase b (record m { state = u })) (sym some) (record { owed = fresh.owed; none = fresh.none; last = fresh.last; start = fresh.start });
    }

-- the machine after a signal before the first tick
kept-unstarted : (m : Overlap) (i : ℕ) → IsKept m → m.phase ≡ Ready → m.now ≡ 0 → IsKept (signalled_by i m)
kept-unstarted m i is settled first =
    let idle = idle-of m is settled in
    let off = idle.unstarted settled first in
    let s = m.state in
    let u = state_with_signal s i in
    let table : m.taken ≡ interrupt u =
    idle.table ∙ off-interrupt s.enabled (pending s) off.0 ∙ sym (off-interrupt s.enabled (pending u) off.0) in
    let made : ticks_made m ≡ 0 = made-settled m.phase m.now settled ∙ first in
    record {
      some = is.some;
      few = is.few;
      delays = is.delays;
      machine = signalled-machine s i is.machine;
      indicator = is.indicator;
      counter = is.counter;
      phase = subst (λ b. IsPhase b (signalled_by i m)) (sym (ap has_completed settled)) (record {
        table = table;
        awake = off-rests s.waiting (pending u) off.1;
        going = idle.going;
        right = idle.right;
        early = omega (arith, made);
        unstarted = λ again zero_tick. off;
      });
    }

pub kept-signalled : (m : Overlap) (i : ℕ) → IsKept m → MaySignal m → IsKept (signalled_by i m)
kept-signalled m i is may = elim may [
  | inl first ↦ kept-unstarted m i is first.0 first.1
  | inr done ↦ kept-changed m (state_with_signal m.state i) is (served m.phase done) (signalled-machine m.state i is.machine)
]

pub kept-read : (m : Overlap) (order : Order) (card : Option (List ℕ)) → IsKept m → m.state.reader ≡ Some order → IfSome card IsCard → MayServe m
    → IsKept (read_in_by order.word card m)
kept-read m order None is given fits may =
    kept-changed m (read_in m.state order.word None) is (served m.phase may) (order-machine m.state order None is.machine given fits)
kept-read m order (Some card) is given fits may =
    let rest = ended-rest m in
    kept-changed (machine_after_segment m) (read_in m.state order.word (Some card)) (kept-ended m is (served m.phase may)) rest.done
    (order-machine m.state order (Some card) is.machine given fits)

-- ---- all calls

pub kept : {m : Overlap} {made since : ℕ} → IsReached m made since → IsKept m
kept (Starts ds n s can) = kept-started ds n s can
kept (Ticks m made since from may) = kept-ticked m (kept from) may.ready
kept (Settles m made since from may) = kept-settled m (kept from) (settling m.phase may)
kept (Signals m made since i from known may) = kept-signalled m i (kept from) may
kept (Reads m made since order card from given fits may) = kept-read m order card (kept from) given fits may
kept (Prints m made since from given may) = kept-changed m (printed_out m.state) (kept from) (served m.phase may) (printed-machine m.state (kept from).machine)
kept (Stops m made since from may) =
    kept-stopped (machine_after_segment m) (kept-ended m (kept from) (served m.phase may)) (ended-rest m).done (ended-rest m).ended
