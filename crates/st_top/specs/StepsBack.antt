-- The state that is shown a number of steps before the end of a run, and the whole report.
--
-- Proved: by their `ensures` clauses these calls do what definitions here say: `write_output`
-- (execution.rt), `write_back` (reporting.rt), `write_report` (reporting.rt), `answer_loaded`
-- (execution.rt), and others.
-- Read by: definitions in Marks, Output.
-- Laws: MarksAreTheReport (specs/DelayLaws.antt).
-- Change: the meaning is fixed by docs/running.md, since the contract of `st_top::stretch` unfolds
-- to a definition here. The form is free, with the proofs that unfold it.
use Rattle.std.specs.Prelude.{ℕ, ◌-◌, ◌==◌, min, if◌then◌else◌, List, [], ◌∷◌, ◌++◌, slice_index_or, map}
use Rattle.st_card.specs.Controls.{Asked}
use Rattle.st_state.specs.Machine.{Machine}
use Rattle.st_run.specs.Run.{Scene}
use Rattle.st_io.specs.Event.{Event, at_moment}
use Rattle.st_report.specs.Line.{back_line}
use Rattle.st_run.specs.Course.{Course}
use Rattle.st_run.specs.Events.{Timed}
use Rattle.st_run.specs.Moments.{Moment as RunMoment, moment_at_start, next_state, moments}
use Rattle.st_run.specs.TimedRun.{timed_run}
use Rattle.st_run.specs.ReportedEvents.{reported_events}
use Rattle.st_telling.specs.Report.{block, report}
use Rattle.st_telling.specs.declared.moment.Moment.{Moment}
use Rattle.st_top.specs.declared.reporting.TheConstants.{LEVELS}

-- the line and the block of the state j steps before the last one
abbrev pub block_before : List (ℕ × ℕ) → ℕ → List Machine → Machine → List (List ℕ)
block_before dumps j states last =
    back_line j ∷ block dumps (slice_index_or states (last.done - j) last)

-- the lines of the requested state before the end, if any; at most as many steps back as were made
abbrev pub lines_of_steps_back : Asked → List Machine → Machine → List (List ℕ)
lines_of_steps_back asked states last =
    if asked.back == 0 then [] else block_before asked.dumps (min asked.back last.done) states last

-- ---- the run with its ticks

-- the moments of a run
abbrev pub moments_of_run : Asked → Scene → Course RunMoment
moments_of_run asked start = moments asked.delays LEVELS asked.budget (moment_at_start start)

-- the events of a run
abbrev pub events_of_run : Asked → Scene → List Timed
events_of_run asked start = timed_run asked.delays LEVELS asked.budget start asked.snaps

-- the last state of a run
abbrev pub last_state : Asked → Scene → Machine
last_state asked start = next_state (moments_of_run asked start).last

-- the states of a run
abbrev pub states_of_run : Asked → Scene → List Machine
states_of_run asked start =
    map next_state (moments_of_run asked start).before ++ last_state asked start ∷ []

-- the end of a run: the number of completed instructions, and the tick of the last completion
unfoldable pub moment_at_end : Asked → Scene → Moment
moment_at_end asked start =
    record { done = (last_state asked start).done; tick = (moments_of_run asked start).last.tick }

-- the report of a run: its events, then, at the moment of its end, the requested state before the end
unfoldable pub run_report : Asked → Scene → List Event
run_report asked start = report asked (reported_events (events_of_run asked start))
    ++ at_moment (moment_at_end asked start).done (moment_at_end asked start).tick
    (lines_of_steps_back asked (states_of_run asked start) (last_state asked start))
