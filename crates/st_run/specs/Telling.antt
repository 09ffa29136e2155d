-- The remaining events of a run, and the state that it shows.
--
-- Proved: by their `ensures` clauses these calls do what definitions here say: `next`
-- (output_queue.rt), `is_empty` (output_queue.rt), `finish` (progress.rt), `go_far` (progress.rt),
-- and others.
-- Read by: definitions in Progress.
-- Laws: none names a definition of this file itself.
-- Change: no page fixes these definitions, since no contract of a program unfolds to them; they
-- change together with the clauses, definitions and laws that name them. docs/timetable.md
-- describes the subject.
use Rattle.std.specs.Prelude.{ℕ, ◌≡◌, ◌+◌, ◌-◌, ◌<◌, ◌^◌, Bool, List, [], ◌∷◌, ◌++◌, map, reverse, replicate, length, All, Option, None, Some, option_map, IsSome, ◌≤◌}
use Rattle.std.specs.Option.{option_to_list}
use Rattle.st_state.specs.Machine.{Machine}
use Rattle.st_exec.specs.Step.{rests}
use Rattle.st_ahead.specs.Overlap.{Overlap, levels_of, last_tick_made}
use Rattle.st_ahead.specs.Shown.{lent_index_words}
use Rattle.st_ahead.specs.RowsDone.{Queue, queue_with}
use Rattle.st_ahead.specs.declared.events.LevelView.{LevelView}
use Rattle.st_ahead.specs.declared.events.Row.{Row}
use Rattle.st_run.specs.Events.{Level, level_at, with_index_words}
use Rattle.st_run.specs.TimedRun.{ticks_before, timed_from, timed_behind}
use Rattle.st_run.specs.Order.{AreRising}
use Rattle.st_run.specs.Run.{interrupts_by}
use Rattle.st_run.specs.ReportedEvents.{ReportedEvent, reported_plain_event, Done, Dropped, Printed, Interrupted, Shown, Ended, TimedReportedEvent, reported_events}
use Rattle.st_run.specs.Together.{Together, IsBeforeEntry, IsBehindEntry, standing_of, moment_of}
use Rattle.st_run.specs.declared.run_events.TimedRunEvent.{TimedRunEvent}
use Rattle.st_run.specs.declared.run_events.RunEvent.{RunEvent}
use Rattle.st_run.specs.declared.run_events.RunEvent.TheVariants as tells
use Rattle.st_run.specs.declared.run_phase.RunPhase.{RunPhase}
use Rattle.st_run.specs.declared.run_phase.RunPhase.TheVariants as turns

-- the view of a run: the remaining events, the machine, and the state, levels and text that it
-- shows
pub record Telling : Type 0 where
  pub rest : List TimedReportedEvent
  pub machine : Overlap
  pub seen : Machine
  pub ahead : List Level
  pub text : List ℕ

-- ---- the next event

-- the reported forms of events at a tick, with the state, levels and text that are shown
module _ (tick : ℕ) (s : Machine) (levels : List Level) (text : List ℕ) where
  -- the reported form of an event
  abbrev pub reported_answer : RunEvent → ReportedEvent
  reported_answer (tells.Done address p r) = Done address p r tick
  reported_answer (tells.Dropped address p) = Dropped address p
  reported_answer tells.Printed = Printed text
  reported_answer (tells.Interrupted i) = Interrupted i s
  reported_answer (tells.Shown at) = Shown at s levels
  reported_answer (tells.Ended rests) = Ended rests s

-- the reported form of a row
abbrev pub row_told : Row → TimedReportedEvent
row_told row =
    record { done = row.number; tick = row.c; event = Done row.address row.p row.r row.c }

-- the events of rows, followed by the remaining events
abbrev pub rows_then : List Row → List TimedReportedEvent → List TimedReportedEvent
rows_then rows rest = map row_told rows ++ rest

-- the events of some rows, ending with this last one, were skipped from the front of the old list,
-- and nothing else
pub record AreLeftOut (last : Row) (old new : List TimedReportedEvent) : Type 0 where
  pub passed : List Row
  pub rest : old ≡ rows_then passed (row_told last ∷ new)

-- ---- pending events between two entries

-- the pending events between two entries: the flushed entries, oldest first; the text that is
-- printed; the interrupt that is taken
pub record OutputQueue : Type 0 where
  pub drops : List (ℕ × ℕ)
  pub text : Option (List ℕ)
  pub taken : Option ℕ

-- the pending events in order
unfoldable pub queued_events : OutputQueue → Machine → List ReportedEvent
queued_events w s =
    map (λ d. Dropped d.0 d.1) (reverse w.drops) ++ map Printed (option_to_list w.text)
    ++ map reported_plain_event (interrupts_by w.taken s)

-- an event at the tick of the last completion
abbrev pub at_once : ℕ → Machine → ReportedEvent → TimedReportedEvent
at_once tick s event = record { done = s.done; tick = tick; event = event }

-- ---- all remaining events

-- the events at the end of the run: snapshots up to the last tick, and the end
unfoldable pub told_at_end : Bool → ℕ → List ℕ → Machine → List TimedReportedEvent
told_at_end rests tick snaps s =
    map (λ x. at_once tick s (Shown x s [])) (ticks_before (tick + 1) snaps)
    ++ at_once tick s (Ended rests s) ∷ []

-- the machine agrees with the phase of the run: an entry follows, or no entry is in flight any more
abbrev pub IsTurn : RunPhase → List ℕ → Together → Type 0
IsTurn turns.Before snaps t = IsBeforeEntry t × AreRising (t.machine.now - 1) snaps
IsTurn _ snaps t = levels_of t.machine ≡ []

-- the ticks and counts of all events are below 2 ^ 63
abbrev pub AreInTime : List TimedReportedEvent → Type 0
AreInTime = All (λ x. (x.tick < 2 ^ 63) × (x.done < 2 ^ 63))

-- the remaining events by the phase of the run: before the next entry, with the budget after it; at
-- the end; or after it
abbrev pub rest_by : RunPhase → ℕ → ℕ → List ℕ → Together → List TimedReportedEvent
rest_by turns.Before left tick snaps t =
    reported_events (timed_behind t.machine.delays t.machine.levels left (standing_of tick t) snaps)
rest_by (turns.AtEnd rests) left tick snaps t = told_at_end rests tick snaps t.machine.state
rest_by turns.Over left tick snaps t = []

module _ (turn : RunPhase) (left tick : ℕ) (snaps : List ℕ) (w : OutputQueue) (t : Together) where
  -- the pending events, followed by the remaining ones
  unfoldable pub rest_of : List TimedReportedEvent
  rest_of =
      map (at_once tick t.machine.state) (queued_events w t.machine.state)
      ++ rest_by turn left tick snaps t

  -- the invariant of a run; if an interrupt is pending, no entry is in flight, so that the state in
  -- which it is taken is the one that is shown
  pub record IsRun : Type 0 where
    pub stands : IsTurn turn snaps t
    pub taken : IsSome w.taken → levels_of t.machine ≡ []
    pub in_time : AreInTime rest_of

-- ---- the state that is shown

-- the state with the index words of the entries in flight
abbrev pub state_told : Overlap → Machine
state_told m = with_index_words (lent_index_words m) m.state

-- the entries in flight, after the last tick
abbrev pub ahead_of : Overlap → List Level
ahead_of m = map (level_at (last_tick_made m)) (levels_of m)

-- the reported form of an event of the interface, with the state, levels and text that are shown
abbrev pub told_as : TimedRunEvent → Machine → List Level → List ℕ → TimedReportedEvent
told_as t s levels text =
    record { done = t.done; tick = t.tick; event = reported_answer t.tick s levels text t.event }

-- a level from its view
abbrev pub level_of : LevelView → Level
level_of v = record {
  address = v.address;
  changed = option_map (λ i. (i, v.kept)) v.index;
  ready = v.ready;
}

-- the views of at most eight levels agree with the levels
pub record AreLevelsShown (shown : List (Option LevelView)) (levels : List Level) : Type 0 where
  pub views : List LevelView
  pub room : shown ≡ map (λ v. Some v) views ++ replicate (8 - length views) None
  pub same : map level_of views ≡ levels

-- ---- between one event and the next

-- the previous tick was that of the first snapshot
abbrev pub IsAtFirst : ℕ → List ℕ → Type 0
IsAtFirst now [] = ⊥
IsAtFirst now (x ∷ xs) = (now ≡ x + 1) × AreRising (x + 1) xs

-- the tick of the first snapshot has just been made
pub record IsShown (left tick : ℕ) (snaps : List ℕ) (t : Together) : Type 0 where
  pub before : IsBeforeEntry t
  pub first : IsAtFirst t.machine.now snaps
  pub soon : t.machine.now ≤ 2 ^ 63
  pub in_time : AreInTime (rest_by turns.Before left tick snaps t)

-- an entry has just completed at the tick
pub record IsLeft (left : ℕ) (snaps : List ℕ) (tick : ℕ) (t : Together) : Type 0 where
  pub behind : IsBehindEntry t
  pub tick_is : tick ≡ t.machine.now
  pub soon : tick < 2 ^ 63
  pub rising : AreRising tick snaps
  pub in_time : AreInTime (reported_events (timed_from t.machine.delays t.machine.levels left
      (moment_of t) snaps))

-- the events of the rows up to this one are skipped from the old list; the rows before it are added
-- to the queue as long as there is room. The argument done is the count of completed
-- instructions before the first of these rows; after the last row the count is at most the argument
-- most, unless it is the only row.
pub record HasGoneFar (done most : ℕ) (row : Row) (old new : List TimedReportedEvent)
    (before after : Queue) : Type 0 where
  pub out : AreLeftOut row old new
  pub waits : after ≡ queue_with out.passed before
  pub few : length out.passed ≤ most - done - 1
