-- The written report of a run, and the moment up to which it is written.
--
-- Proved: by their `ensures` clauses these calls do what definitions here say: `write_rest`
-- (telling.rt), `write_run` (telling.rt), `first_level` (telling.rt), `next_told` (telling.rt), and
-- others.
-- Laws: none names a definition of this file itself.
-- Change: no page fixes these definitions, since no contract of a program unfolds to them; they
-- change together with the clauses, definitions and laws that name them. docs/report.md describes
-- the subject.
use Rattle.std.specs.Prelude.{◌≡◌, ℕ, ◌≤◌, length, List, [], ◌∷◌, Option, None, Some, Result, OnOk, OnErr}
use Rattle.st_card.specs.Controls.{Asked}
use Rattle.st_io.specs.Output.{OutputState, Wrote}
use Rattle.st_io.specs.declared.Failed.{Failed}
use Rattle.st_io.specs.Lines.{text}
use Rattle.st_io.specs.Event.{Event, lines_of, StoppedAt}
use Rattle.st_report.specs.Line.{lev_line}
use Rattle.st_ahead.specs.declared.events.LevelView.{LevelView}
use Rattle.st_time.specs.Shown.{change_shown}
use Rattle.st_run.specs.ReportedEvents.{TimedReportedEvent}
use Rattle.st_telling.specs.Report.{report}
use Rattle.st_telling.specs.declared.moment.Moment.{Moment}

-- the moment of an event
abbrev pub moment_told : TimedReportedEvent → Moment
moment_told t = record { done = t.done; tick = t.tick }

-- the moment of the last event, m if there is none
unfoldable pub last_moment : Moment → List TimedReportedEvent → Moment
last_moment m [] = m
last_moment m (t ∷ ts) = last_moment (moment_told t) ts

-- nothing is written about the events that are skipped from one moment to a later one, and the
-- lines of the remaining events do not change
pub record WritesNothing (asked : Asked) (m : Moment) (old : List TimedReportedEvent) (now : Moment)
    (new : List TimedReportedEvent) : Type 0 where
  pub lines : report asked old ≡ report asked new
  pub last : last_moment m old ≡ last_moment now new
  pub fewer : length new ≤ length old

-- the lines of the levels before the first empty place
unfoldable pub views_lines : List (Option LevelView) → List (List ℕ)
views_lines [] = []
views_lines (None ∷ more) = []
views_lines (Some level ∷ more) = lev_line level.address (change_shown level) level.ready
    ∷ views_lines more

-- on Ok all events are written, and the moment is that of the last one; otherwise the writing
-- stopped, and the moment is that of the line in which it stopped
pub record WritesEvents (before after : OutputState) (events : List Event) (last moment : Moment)
    (result : Result (Unit {0}) Failed) : Type 0 where
  pub whole : OnOk result (Wrote before after (text (lines_of events)))
  pub ended : OnOk result (moment ≡ last)
  pub stopped : OnErr result (StoppedAt before after events moment.done moment.tick)
