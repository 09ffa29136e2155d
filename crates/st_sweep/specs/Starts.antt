-- The starts of the runs of a sweep: a machine before its first entry, the ticks of a run from it,
-- and the tick of the last event.
--
-- Proved: by their `ensures` clauses these calls do what definitions here say: `new` (start.rt),
-- `next_tick` (start.rt), `ticks` (start.rt), `ticks_on_few` (start.rt), and others.
-- Read by: definitions in SideBySide.
-- Laws: none names a definition of this file itself.
-- Change: no page fixes these definitions, since no contract of a program unfolds to them; they
-- change together with the clauses, definitions and laws that name them. docs/timetable.md
-- describes the subject.
use Rattle.st_card.specs.declared.control_cards.Signal.{Signal}
use Rattle.std.specs.Prelude.{ℕ, ◌≡◌, false, List, [], ◌∷◌, None}
use Rattle.st_state.specs.Machine.{Machine, opening_state}
use Rattle.st_run.specs.ReportedEvents.{TimedReportedEvent}
use Rattle.st_sweep.specs.Sweep.{without_cards, ticks}

-- a machine before its first entry: its state and delays
pub record Start : Type 0 where
  pub machine : Machine
  pub delays : List ℕ

-- the machine with this image, start address and delays
abbrev pub start_of_image : List ℕ → ℕ → List ℕ → Start
start_of_image image start ds = record { machine = opening_state image start; delays = ds }

-- an initial state: no instruction has completed, interrupts are disabled, the machine does not
-- wait, and there are no orders
pub record IsFreshStart (s : Machine) : Type 0 where
  pub done : s.done ≡ 0
  pub enabled : s.enabled ≡ false
  pub waiting : s.waiting ≡ false
  pub reader : s.reader ≡ None
  pub printer : s.printer ≡ None

-- the ticks of the run from this machine, with these signals, on n levels
abbrev pub ticks_from : Start → ℕ → ℕ → List Signal → ℕ
ticks_from s n left xs = ticks s.delays n left (without_cards s.machine xs)

-- the tick of the last event, t if there is none
unfoldable pub last_told : ℕ → List TimedReportedEvent → ℕ
last_told t [] = t
last_told t (x ∷ xs) = last_told x.tick xs
