-- The progress of a run between two events, and the events that remain.
--
-- Proved: by their `ensures` clauses these calls do what definitions here say: `go` (progress.rt),
-- `show` (progress.rt), `finish` (progress.rt), `go_far` (progress.rt), and others.
-- Laws: none names a definition of this file itself.
-- Change: no page fixes these definitions, since no contract of a program unfolds to them; they
-- change together with the clauses, definitions and laws that name them. docs/timetable.md
-- describes the subject.
use Rattle.std.specs.Prelude.{ℕ, ◌≡◌, List, []}
use Rattle.st_state.specs.Machine.{Machine}
use Rattle.st_run.specs.TimedRun.{timed_from}
use Rattle.st_run.specs.Together.{moment_of}
use Rattle.st_run.specs.ReportedEvents.{TimedReportedEvent, reported_events}
use Rattle.st_run.specs.Telling.{IsRun, rest_of, rest_by, rows_then, state_told, ahead_of, told_as, queued_events}
use Rattle.st_run.specs.declared.progress.Progress.{Progress}
use Rattle.st_run.specs.declared.teller.Teller.{Teller}
use Rattle.st_run.specs.declared.run_events.TimedRunEvent.{TimedRunEvent}
use Rattle.st_run.specs.declared.run_phase.RunPhase.TheVariants as turns

module _ {n : ℕ} (run : Progress n) where
  -- the invariant of a run
  abbrev pub IsUnderWay : Type 0
  IsUnderWay = IsRun run.turn run.left run.tick run.snaps.now run.queue run.driven

  -- the invariant of a run before the next entry
  abbrev pub IsBeforeNext : Type 0
  IsBeforeNext = IsRun turns.Before run.left run.tick run.snaps.now run.queue run.driven

  -- the remaining events of the run
  abbrev pub rest_behind : List TimedReportedEvent
  rest_behind = rest_of run.turn run.left run.tick run.snaps.now run.queue run.driven

  -- no event is pending
  abbrev pub IsTold : Type 0
  IsTold = (s : Machine) → queued_events run.queue s ≡ []

  -- the remaining events from the point before the next entry
  abbrev pub told_ahead : List TimedReportedEvent
  told_ahead = rest_by turns.Before run.left run.tick run.snaps.now run.driven

  -- the remaining events after an entry has just completed
  abbrev pub told_after : List TimedReportedEvent
  told_after = reported_events (timed_from run.driven.machine.delays run.driven.machine.levels
      run.left (moment_of run.driven) run.snaps.now)

-- the reported form of an event of the interface, with the state, levels and text that are visible
-- after it
abbrev pub told_by : {n : ℕ} → TimedRunEvent → Progress n → TimedReportedEvent
told_by t run = told_as t (state_told run.driven.machine) (ahead_of run.driven.machine)
    run.printed.bytes

-- the events of the pending rows, followed by the remaining events
abbrev pub rest_with_rows : {n : ℕ} → Teller n → List TimedReportedEvent
rest_with_rows teller = rows_then teller.rows.rows (rest_behind teller.progress)
