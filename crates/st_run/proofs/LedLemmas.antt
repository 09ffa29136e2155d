-- A run uses its machine only by calls within the protocol.
use Rattle.st_run.proofs.Common.{IfSome, IsSome, nat_le, AllPass, ◌≡◌, ℕ, zero, suc, ◌+◌, ◌-◌, ◌<◌, ◌≤◌, ◌^◌, true, List, [], ◌∷◌, Option, None, Some, refl, sym, subst, arith, and_parts, leb-true, All-head, All-tail, is_signal, Signal, Machine, state_with_signal, Order, of_choice, Ready, Overlap, machine_at_start, run_ended, machine_after_settling, signalled_by, read_in_by, printed_by, MaySettle, MaySignal, MayServe, after_ticks, ArePassed, RunsTo, Row, CanStart, MayTick, IsLed, Starts, Settles, Signals, Reads, Prints, Stops, Scene, with_due_signals, IsCard, last_for}
use Rattle.st_ahead.proofs.Passing.{passed-now}
use Rattle.st_refine.proofs.Laws.{runs_are_reached}

-- ---- single calls

pub signal-led : {b : Overlap} (m : Overlap) (i : ℕ) → i ≤ 13 → MaySignal m → IsLed b m → IsLed b (signalled_by i m)
signal-led m i known may led = record {
  made = led.made;
  since = led.since;
  from = record { reached = Signals m led.made led.since i led.from.reached known may; begun = led.from.begun };
}

pub settle-led : {b : Overlap} (m : Overlap) → MaySettle m → IsLed b m → IsLed b (machine_after_settling m)
settle-led m may led = record { made = led.made; since = led.since; from = record { reached = Settles m led.made led.since led.from.reached may; begun = led.from.begun } }

pub stop-led : {b : Overlap} (m : Overlap) → MayServe m → IsLed b m → IsLed b (run_ended m)
stop-led m may led = record { made = led.made; since = led.since; from = record { reached = Stops m led.made led.since led.from.reached may; begun = led.from.begun } }

pub print-led : {b : Overlap} (m : Overlap) → IsSome m.state.printer → MayServe m → IsLed b m → IsLed b (printed_by m)
print-led m some may led = record { made = led.made; since = led.since; from = record { reached = Prints m led.made led.since led.from.reached some may; begun = led.from.begun } }

pub read-led : {b : Overlap} (m : Overlap) (order : Order) (card : Option (List ℕ)) → m.state.reader ≡ Some order → IfSome card IsCard → MayServe m → IsLed b m
    → IsLed b (read_in_by order.word card m)
read-led m order card given is may led = record {
  made = led.made;
  since = led.since;
  from = record { reached = Reads m led.made led.since order card led.from.reached given is may; begun = led.from.begun };
}

-- the calls that make ticks up to a completion or up to a tick are within the protocol
passed-led : {b : Overlap} (k count last : ℕ) (m new : Overlap) → last + 1 - m.now ≡ k → m.phase ≡ Ready → m.state.done < 2 ^ 63 → count ≤ 2 ^ 63 → last < 2 ^ 63
    → ArePassed count k m new → IsLed b m → IsLed b new
unfolding after_ticks
passed-led zero count last m new is ready few most soon ran led = subst {A = Overlap} (IsLed _) (sym ran.after) led
passed-led (suc k) count last m new is ready few most soon ran led =
    let may : MayTick m = record { ready = ready; tick = omega (arith, is, soon); done = few } in
    let all : RunsTo count last None m new = subst {A = ℕ} (λ j. ArePassed count j m new) (sym is) ran in
    let there = runs_are_reached.passed _ m new led.made led.since count last led.from may most soon all in
    record { made = led.made + (last + 1 - m.now); since = there.since; from = there.from }

pub run-led : {b : Overlap} (count last : ℕ) (row : Option Row) (m new : Overlap) → m.phase ≡ Ready → m.state.done < 2 ^ 63 → count ≤ 2 ^ 63 → last < 2 ^ 63
    → RunsTo count last row m new → IsLed b m → IsLed b new
run-led count last (Some row) m new ready few most soon ran led =
    let at : ran.before.now ≡ m.now + ran.ticks = passed-now ran.ticks count m ran.before ran.passed in
    let may : MayTick m = record { ready = ready; tick = omega (arith, at, ran.soon, soon); done = few } in
    record { made = row.c + 1; since = 0; from = runs_are_reached.done _ m new led.made led.since count last row led.from may most soon ran }
run-led count last None m new ready few most soon ran led = passed-led (last + 1 - m.now) count last m new refl ready few most soon ran led

-- the last tick that may be made is below 2 ^ 63
pub last-soon : (snap : Option ℕ) (last : ℕ) → last ≡ last_for snap → last < 2 ^ 63
last-soon None last is = omega (arith, is)
last-soon (Some x) last is = omega (arith, is)

-- ---- successive signals

known-indicator : (x : Signal) → is_signal x ≡ true → x.indicator ≤ 13
known-indicator x is = leb-true x.indicator 13 (and_parts (nat_le x.count 10000000) (nat_le x.indicator 13) is).1

pub due-led : {b : Overlap} (xs : List Signal) (m : Overlap) (cards : List (List ℕ)) → AllPass is_signal xs → MaySignal m → IsLed b m
    → IsLed b (record m { state = (with_due_signals (record { machine = m.state; signals = xs; cards = cards })).machine })
due-led {b = b} [] m cards known may led = led
due-led {b = b} (x ∷ xs) m cards known may led =
    of_choice (λ (c : Scene). IsLed b (record m { state = c.machine })) (nat_le x.count m.state.done)
    (with_due_signals (record { machine = state_with_signal m.state x.indicator; signals = xs; cards = cards })) (record { machine = m.state; signals = x ∷ xs; cards = cards })
    (due-led xs (signalled_by x.indicator m) cards (All-tail (λ s. is_signal s ≡ true) x xs known) may
    (signal-led m x.indicator (known-indicator x (All-head (λ s. is_signal s ≡ true) x xs known)) may led)) led

-- ---- the start of a run

pub start-led : (ds : List ℕ) (n : ℕ) (s : Machine) (m : Overlap) → CanStart ds n s → m ≡ machine_at_start ds n s → IsLed (machine_at_start ds n s) m
start-led ds n s m can same =
    subst {A = Overlap} (IsLed (machine_at_start ds n s)) (sym same)
    (record { made = 0; since = 0; from = record { reached = Starts ds n s can; begun = refl } })
