-- Overlapped machines that are reached by calls within the protocol.
--
-- Proved: by their `ensures` clauses these calls do what definitions here say: `reader_of_job`
-- (beginning.rt of st_run), `shape_of` (driven.rt of st_run), `decide` (leaving.rt of st_run),
-- `end_run` (leaving.rt of st_run), and others.
-- Read by: definitions in Overlapped of st_run, Scenes of st_run.
-- Laws: CompletionsAreSteps (specs/Laws.antt), MachinesKeepTheirDelays (specs/Laws.antt),
-- OpeningsAreKept (specs/Laws.antt), OpeningsFollow (specs/Laws.antt), and others.
-- Change: no page fixes these definitions, since no contract of a program unfolds to them; they
-- change together with the clauses, definitions and laws that name them. docs/inside.md describes
-- the subject.
use Rattle.std.specs.Prelude.{ℕ, ◌≡◌, ◌+◌, ◌≤◌, ◌<◌, ◌^◌, false, if◌then◌else◌, List, length, All, Option, Some, IsSome, IfSome}
use Rattle.st_bits.specs.declared.limits.TheConstants.{MOST_DELAY}
use Rattle.st_state.specs.Machine.{Machine, IsMachine}
use Rattle.st_state.specs.declared.devices.Order.{Order}
use Rattle.st_rows.specs.Ranges.{AreDelaysUpTo}
use Rattle.st_ahead.specs.Overlap.{Ready, Overlap, machine_at_start}
use Rattle.st_ahead.specs.Calls.{is_done, machine_after_tick, machine_after_settling, run_ended, signalled_by, read_in_by, printed_by, MaySettle, MaySignal, MayServe}

-- a machine can be created: n levels, 1 to 8, delays of 1 to 255 ticks, and a state with interrupts
-- disabled that does not wait
pub record CanStart (ds : List ℕ) (n : ℕ) (s : Machine) : Type 0 where
  pub some : 1 ≤ n
  pub few : n ≤ 8
  pub delays : AreDelaysUpTo MOST_DELAY ds
  pub machine : IsMachine s
  pub enabled : s.enabled ≡ false
  pub waiting : s.waiting ≡ false

-- a tick may be made: no settle is owed, and the tick and the count of completed instructions are
-- below 2^63
pub record MayTick (m : Overlap) : Type 0 where
  pub ready : m.phase ≡ Ready
  pub tick : m.now < 2 ^ 63
  pub done : m.state.done < 2 ^ 63

-- a card of the reader: eight words below 2^64
pub record IsCard (card : List ℕ) : Type 0 where
  pub size : length card ≡ 8
  pub below : All (λ x. x < 2 ^ 64) card

-- the machine before its first call, and after each further one: a tick, a settle, a signal, a
-- reader order with a card or without one, a printer order, or, as the last call, the end of the
-- run after a tick with a completion. The numbers are the ticks made in all, and those since the
-- last completion or the start
pub data IsReached : Overlap → ℕ → ℕ → Type 0 where
  Starts : (ds : List ℕ) (n : ℕ) (s : Machine) → CanStart ds n s →
      IsReached (machine_at_start ds n s) 0 0
  Ticks : (m : Overlap) (made since : ℕ) → IsReached m made since → MayTick m
      → IsReached (machine_after_tick m) (made + 1) (if is_done m then 0 else since + 1)
  Settles : (m : Overlap) (made since : ℕ) → IsReached m made since → MaySettle m
      → IsReached (machine_after_settling m) made since
  Signals : (m : Overlap) (made since i : ℕ) → IsReached m made since → i ≤ 13 → MaySignal m
      → IsReached (signalled_by i m) made since
  Reads : (m : Overlap) (made since : ℕ) (order : Order) (card : Option (List ℕ)) →
      IsReached m made since
      → m.state.reader ≡ Some order → IfSome card IsCard → MayServe m →
      IsReached (read_in_by order.word card m) made since
  Prints : (m : Overlap) (made since : ℕ) → IsReached m made since → IsSome m.state.printer →
      MayServe m
      → IsReached (printed_by m) made since
  Stops : (m : Overlap) (made since : ℕ) → IsReached m made since → MayServe m →
      IsReached (run_ended m) made since

-- the machine before the first of these calls
abbrev pub start_of : {m : Overlap} {made since : ℕ} → IsReached m made since → Overlap
start_of (Starts ds n s can) = machine_at_start ds n s
start_of (Ticks m made since reached may) = start_of reached
start_of (Settles m made since reached may) = start_of reached
start_of (Signals m made since i reached known may) = start_of reached
start_of (Reads m made since order card reached given fits may) = start_of reached
start_of (Prints m made since reached given may) = start_of reached
start_of (Stops m made since reached may) = start_of reached

-- calls within the protocol lead from the new machine start to m
pub record IsReachedFrom (start m : Overlap) (made since : ℕ) : Type 0 where
  pub reached : IsReached m made since
  pub begun : start_of reached ≡ start

-- calls within the protocol lead from the new machine start to m, with any number of ticks
pub record IsLed (start m : Overlap) : Type 0 where
  pub made : ℕ
  pub since : ℕ
  pub from : IsReachedFrom start m made since

-- if calls within the protocol lead to the first machine, they lead to the second
abbrev pub IsLedOn : Overlap → Overlap → Type 0
IsLedOn m n = (start : Overlap) → IsLed start m → IsLed start n
