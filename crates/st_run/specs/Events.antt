-- The events of a timed run, and the parts of the machine that snapshots show.
--
-- Proved: by their `ensures` clauses these calls do what definitions here say: `levels_ahead`
-- (leaving.rt), `next` (output_queue.rt), `with_index` (seen.rt), `word_with` (seen.rt).
-- Read by: definitions in TimedRun, ReportedEvents, Telling, Order, and others.
-- Laws: DelaysChangeNothingButTicks (specs/Laws.antt), NothingIsAheadBehindAnEnd (specs/Laws.antt),
-- RunsAreInTime (specs/Laws.antt), TheTimedRunIsTheRun (specs/Laws.antt), and others.
-- Change: the meaning is fixed by docs/machine.md, since the contract of `st_top::stretch` unfolds
-- to a definition here. The form is free, with the proofs that unfold it.
use Rattle.std.specs.Prelude.{ℕ, ◌+◌, Bool, nat_le, List, [], ◌∷◌, ◌++◌, map, length, take, drop, Option, option_map}
use Rattle.std.specs.List.{flat_map}
use Rattle.st_bits.specs.declared.register.TheConstants.{FIRST_INDEX_WORD, FIRST_STORAGE_WORD}
use Rattle.st_state.specs.Machine.{Machine, word}
use Rattle.st_run.specs.Run.{PlainEvent, Executes}
use Rattle.st_rows.specs.declared.issue.EntryTicks.{EntryTicks}
use Rattle.st_segment.specs.Ahead.{Ahead, plan_of}
use Rattle.st_segment.specs.Predictions.{split_words}

-- ---- the entries in flight as snapshots show them

-- an entry in flight: its address, its changed index word (number, contents before), its readiness
pub record Level : Type 0 where
  pub address : ℕ
  pub changed : Option (ℕ × ℕ)
  pub ready : Bool

-- ---- events

-- an event: an entry completes (state after it, address, row) or is flushed (address, tick of its
-- preparation); a snapshot (tick, state, entries in flight, oldest first); or one of the plain run
pub data TimetableEvent : Type 0 where
  Completes : Machine → ℕ → EntryTicks → TimetableEvent
  Drops : ℕ → ℕ → TimetableEvent
  Shows : ℕ → Machine → List Level → TimetableEvent
  Happens : PlainEvent → TimetableEvent

-- an event, the count of completed instructions, and the tick of the last completion; 0 at first
pub record Timed : Type 0 where
  pub done : ℕ
  pub tick : ℕ
  pub event : TimetableEvent

-- ---- entries in flight

-- the address of an entry in flight
abbrev pub address_ahead : Ahead → ℕ
address_ahead a = (plan_of a).place.address

-- the event that flushes an entry in flight
abbrev pub drop_of : Ahead → TimetableEvent
drop_of a = Drops (address_ahead a) a.row.p

-- an entry in flight as a snapshot at the tick shows it
abbrev pub level_at : ℕ → Ahead → Level
level_at tick a = record {
  address = address_ahead a;
  changed =
      option_map (λ c. (c.number, word a.state (FIRST_INDEX_WORD + c.number))) (plan_of a).index;
  ready = nat_le a.row.r tick;
}

-- the state with the index words replaced
unfoldable pub with_index_words : List ℕ → Machine → Machine
with_index_words xs s =
    record s { words = take FIRST_INDEX_WORD s.words ++ xs ++ drop FIRST_STORAGE_WORD s.words }

-- a snapshot at a tick: the entries in flight begin with the table instruction of a taken interrupt
unfoldable pub snapshot : ℕ → Option ℕ → Machine → List Ahead → TimetableEvent
snapshot tick taken s levels = Shows tick (with_index_words (split_words (length levels) taken s) s)
    (map (level_at tick) levels)

-- ---- the events without their timing

-- the events of the plain run that correspond to an event of the timed run
abbrev pub plain_events_of : TimetableEvent → List PlainEvent
plain_events_of (Completes s address row) = Executes s address ∷ []
plain_events_of (Happens happening) = happening ∷ []
plain_events_of _ = []

-- the events of the plain run that correspond to a list of events
unfoldable pub plain_run : List Timed → List PlainEvent
plain_run = flat_map (λ x. plain_events_of x.event)
