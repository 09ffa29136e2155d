-- A whole run without timing: instructions are executed sequentially, and signals and orders take
-- effect between them.
--
-- Proved: by their `ensures` clauses these calls do what definitions here say: `between`
-- (between.rt), `serve` (between.rt), `end_wait` (between.rt), `print_line` (between.rt), and
-- others.
-- Read by: definitions in Moments, TimedRun, ExternalEvents, Together, and others.
-- Laws: PrintsComeOneAtATime (specs/Laws.antt), RunsAreInTime (specs/Laws.antt),
-- TheLastMomentEndsTheRun (specs/Laws.antt), TheTimedRunIsTheRun (specs/Laws.antt), and others.
-- Change: the meaning is fixed by docs/machine.md, since the contracts of `st_top::stretch` and
-- `st_account::ledger` unfold to a definition here. The form is free, with the proofs that unfold
-- it.
use Rattle.std.specs.Prelude.{ℕ, Bool, nat_le, if◌then◌else◌, slice_get, drop, List, [], ◌∷◌, ◌++◌, map, Option, None, Some}
use Rattle.std.specs.List.{flat_map}
use Rattle.std.specs.Option.{option_to_list}
use Rattle.st_card.specs.declared.control_cards.Signal.{Signal}
use Rattle.st_state.specs.Machine.{Machine}
use Rattle.st_state.specs.Interrupts.{state_with_signal}
use Rattle.st_state.specs.Orders.{is_due, next_device}
use Rattle.st_state.specs.declared.devices.Order.{Order}
use Rattle.st_state.specs.declared.devices.Device.{Device}
use Rattle.st_state.specs.declared.devices.Device.TheVariants.{Reader, Printer}
use Rattle.st_exec.specs.Step.{rests, interrupt, step, address}
use Rattle.st_exec.specs.Transfer.{words_from, read_in, printed_out}
use Rattle.st_run.specs.Course.{Course, course}

-- a point of a run: the machine, and the signals and the reader's cards that are still to come
pub record Scene : Type 0 where
  pub machine : Machine
  pub signals : List Signal
  pub cards : List (List ℕ)

-- a print, an interrupt by an indicator, a completion of an address, or the end, true if at rest
pub data PlainEvent : Type 0 where
  Prints : Machine → List ℕ → PlainEvent
  Interrupts : Machine → ℕ → PlainEvent
  Executes : Machine → ℕ → PlainEvent
  Ends : Machine → Bool → PlainEvent

-- the scene after a transition, and the events that occurred
pub record Transition : Type 0 where
  pub scene : Scene
  pub happened : List PlainEvent

-- the scene after signals are taken, one at a time, while the test holds of the next one
abbrev pub with_signals_while : (Machine → Signal → Bool) → List Signal → Scene → Scene
with_signals_while holds [] c = c
with_signals_while holds (x ∷ xs) c = if holds c.machine x then with_signals_while holds xs
    (record c { machine = state_with_signal c.machine x.indicator; signals = xs })
    else c

-- the scene after the due signals are taken
abbrev pub with_due_signals : Scene → Scene
with_due_signals c = with_signals_while (λ s x. nat_le x.count s.done) c.signals c

-- the scene after signals are taken while the machine is at rest
abbrev pub with_signals_at_rest : Scene → Scene
with_signals_at_rest c = with_signals_while (λ s x. rests s) c.signals c

-- the transition without a change and without events
abbrev pub uneventful : Scene → Transition
uneventful c = record { scene = c; happened = [] }

-- two transitions in sequence
abbrev pub and_then : Transition → (Scene → Transition) → Transition
and_then r f = let q = f r.scene in record { scene = q.scene; happened = r.happened ++ q.happened }

-- the order if it is due, otherwise None
abbrev pub if_due : ℕ → Option Order → Option Order
if_due done order = if is_due done order then order else None

-- the order of a device
abbrev pub order_of : Device → Machine → Option Order
order_of Reader s = s.reader
order_of Printer s = s.printer

-- the transition by an order: the reader reads its next card, if any; the printer prints 8 words
abbrev pub with_order : Device → Option Order → Scene → Transition
with_order _ None c = uneventful c
with_order Reader (Some o) c = uneventful
    (record c { machine = read_in c.machine o.word (slice_get c.cards 0); cards = drop 1 c.cards })
with_order Printer (Some order) c = record {
  scene = record c { machine = printed_out c.machine };
  happened = Prints c.machine (words_from c.machine order.word 8) ∷ [];
}

-- the transition by the order of a device if it is due
abbrev pub with_due_order : Device → Scene → Transition
with_due_order device c = with_order device (if_due c.machine.done (order_of device c.machine)) c

-- the transition by the due orders, the reader's first
unfoldable pub with_due_orders : Scene → Transition
with_due_orders c = and_then (with_due_order Reader c) (λ d. with_due_order Printer d)

-- the transition by the order of the given device, if there is one
abbrev pub with_device : Option Device → Scene → Transition
with_device None c = uneventful c
with_device (Some device) c = with_order device (order_of device c.machine) c

-- the transition at rest by the earliest order; the reader has priority if both have one count
unfoldable pub with_order_at_rest : Scene → Transition
with_order_at_rest c = if rests c.machine then with_device (next_device c.machine) c
    else uneventful c

-- the transition that may end a wait: orders, then signals
unfoldable pub with_wait : Scene → Transition
with_wait c = and_then (and_then (with_order_at_rest c) with_order_at_rest)
    (λ d. uneventful (with_signals_at_rest d))

-- the transition between two instructions: due signals, due orders, and events that may end a wait
unfoldable pub interlude : Scene → Transition
interlude c = and_then (with_due_orders (with_due_signals c)) with_wait

-- the event of the interrupt that the next step takes, if it takes one
abbrev pub interrupts_by : Option ℕ → Machine → List PlainEvent
interrupts_by i s = map (Interrupts s) (option_to_list i)

-- the scene after the next step
abbrev pub scene_after_step : Scene → Scene
scene_after_step c = record c { machine = step c.machine }

-- the events of the next step
abbrev pub happens : Machine → List PlainEvent
happens s = interrupts_by (interrupt s) s ++ Executes (step s) (address s) ∷ []

-- ---- the run

-- the state before the next step
abbrev pub state_next : Scene → Machine
state_next c = (interlude c).scene.machine

-- the scenes of a run with the given budget, each before the transition between two instructions
abbrev pub scenes : ℕ → Scene → Course Scene
scenes = course (λ d. rests (state_next d)) (λ d. scene_after_step (interlude d).scene)

-- the events from a scene to the next one
abbrev pub happens_from : Scene → List PlainEvent
happens_from c = (interlude c).happened ++ happens (state_next c)

-- the events from the last scene: the run ends, at rest or with the budget used up
abbrev pub happens_last : Scene → List PlainEvent
happens_last c = (interlude c).happened ++ Ends (state_next c) (rests (state_next c)) ∷ []

-- the run from a scene to its end
unfoldable pub run : ℕ → Scene → Transition
run left c = record {
  scene = (interlude (scenes left c).last).scene;
  happened = flat_map happens_from (scenes left c).before ++ happens_last (scenes left c).last;
}
