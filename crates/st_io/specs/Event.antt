-- The lines of a report, each with the moment at which it is written.
--
-- Proved: by their `ensures` clauses these calls do what definitions here say: `write_output`
-- (execution.rt of st_top).
-- Read by: definitions in Running of st_telling, Report of st_telling, Answers of st_top, Output of
-- st_top, and others.
-- Laws: MarksAreTheReport (specs/DelayLaws.antt of st_top).
-- Change: the meaning is fixed by docs/report.md, since the contract of `st_top::stretch` unfolds
-- to a definition here. The form is free, with the proofs that unfold it.
use Rattle.std.specs.Prelude.{◌≡◌, ◌≢◌, ℕ, List, [], ◌∷◌, ◌++◌, map}
use Rattle.st_io.specs.Count.{HasRisen}
use Rattle.st_io.specs.Output.{OutputState, Appends}
use Rattle.st_io.specs.Lines.{text}

-- a line, with the count of completed instructions and the tick when it is written
pub record Event : Type 0 where
  pub line : List ℕ
  pub done : ℕ
  pub ticks : ℕ

-- the lines of the events
abbrev pub lines_of : List Event → List (List ℕ)
lines_of events = map (λ event. event.line) events

-- a list of lines as events at one moment
abbrev pub at_moment : ℕ → ℕ → List (List ℕ) → List Event
at_moment done ticks lines = map (λ l. record { line = l; done = done; ticks = ticks }) lines

-- the writing stopped in the line of one of the events, which has this moment
pub record StoppedAt (before after : OutputState) (events : List Event)
    (done ticks : ℕ) : Type 0 where
  pub earlier : List Event
  pub failed : Event
  pub later : List Event
  pub order : events ≡ earlier ++ failed ∷ later
  pub front : List ℕ
  pub rest : List ℕ
  pub parts : failed.line ≡ front ++ rest
  pub proper : rest ≢ []
  pub appended : Appends before.written after.written (text (lines_of earlier) ++ front)
  pub risen : HasRisen before.faults after.faults
  pub done_then : done ≡ failed.done
  pub ticks_then : ticks ≡ failed.ticks
