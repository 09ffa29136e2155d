-- The events of a run as a report shows them.
--
-- Proved: by their `ensures` clauses these calls do what definitions here say: `new` (run.rt),
-- `answer_loaded` (execution.rt of st_top), `answer_run` (execution.rt of st_top), `prepare`
-- (execution.rt of st_top), and others.
-- Read by: definitions in Telling, Progress, Together, Report of st_telling, and others.
-- Laws: none names a definition of this file itself.
-- Change: the meaning is fixed by docs/timetable.md, since the contract of `st_top::stretch`
-- unfolds to a definition here. The form is free, with the proofs that unfold it.
use Rattle.std.specs.Prelude.{ℕ, Bool, List, map}
use Rattle.st_state.specs.Machine.{Machine}
use Rattle.st_exch.specs.Printer.{line_of_words}
use Rattle.st_run.specs.Run.{PlainEvent, Prints, Interrupts, Executes, Ends}
use Rattle.st_run.specs.Events.{TimetableEvent, Level, Timed, Completes, Drops, Shows, Happens}

-- an entry completes (address; ticks P, R and C) or is flushed (address, P), a text is printed, an
-- interrupt is taken in a state, a snapshot at a tick, or the run ends in a state, at rest or not
pub data ReportedEvent : Type 0 where
  Done : ℕ → ℕ → ℕ → ℕ → ReportedEvent
  Dropped : ℕ → ℕ → ReportedEvent
  Printed : List ℕ → ReportedEvent
  Interrupted : ℕ → Machine → ReportedEvent
  Shown : ℕ → Machine → List Level → ReportedEvent
  Ended : Bool → Machine → ReportedEvent

-- a reported event with the number of completed instructions and the tick of the last completion
pub record TimedReportedEvent : Type 0 where
  pub done : ℕ
  pub tick : ℕ
  pub event : ReportedEvent

-- the reported form of an event of the plain run; `reported_event` tells completions by their rows
abbrev pub reported_plain_event : PlainEvent → ReportedEvent
reported_plain_event (Prints s words) = Printed (line_of_words words)
reported_plain_event (Interrupts s i) = Interrupted i s
reported_plain_event (Executes s address) = Done address 0 0 0
reported_plain_event (Ends s rests) = Ended rests s

-- the reported form of an event of the timed run
abbrev pub reported_event : TimetableEvent → ReportedEvent
reported_event (Completes s address row) = Done address row.p row.r row.c
reported_event (Drops address p) = Dropped address p
reported_event (Shows tick s levels) = Shown tick s levels
reported_event (Happens happening) = reported_plain_event happening

-- the reported form of an event with its moment
abbrev pub timed_reported_event : Timed → TimedReportedEvent
timed_reported_event x = record { done = x.done; tick = x.tick; event = reported_event x.event }

-- the reported forms of a list of events
unfoldable pub reported_events : List Timed → List TimedReportedEvent
reported_events = map timed_reported_event
