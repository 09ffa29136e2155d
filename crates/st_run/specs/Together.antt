-- An overlapped machine with the signals and the reader's cards that are still to come.
--
-- Proved: by their `ensures` clauses these calls do what definitions here say: `leave`
-- (leaving.rt), `pass_on` (leaving.rt).
-- Read by: definitions in Leaving, Telling, Overlapped, OverlappedLaws, and others.
-- Laws: none names a definition of this file itself.
-- Change: no page fixes these definitions, since no contract of a program unfolds to them; they
-- change together with the clauses, definitions and laws that name them. docs/timetable.md
-- describes the subject.
use Rattle.std.specs.Prelude.{ℕ, ◌≡◌, ◌≤◌, Bool, false, if◌then◌else◌, is_some, List, map, Option, None, IfSome, ◌<◌, ◌^◌}
use Rattle.std.specs.Option.{option_to_list}
use Rattle.st_bits.specs.declared.limits.TheConstants.{MOST_DELAY}
use Rattle.st_card.specs.declared.control_cards.Signal.{Signal}
use Rattle.st_prep.specs.BesideOrders.{AreAlikeBesideOrders}
use Rattle.st_exec.specs.Step.{interrupt, rests}
use Rattle.st_run.specs.Run.{Scene, PlainEvent}
use Rattle.st_rows.specs.Ranges.{AreDelaysUpTo}
use Rattle.st_banks.specs.declared.answers.LastAnswers.{LastAnswers}
use Rattle.st_ahead.specs.Overlap.{Completed, closing, Overlap, oldest_row, levels_of, machine_between_ticks}
use Rattle.st_ahead.specs.Calls.{machine_after_segment, banks_left}
use Rattle.st_run.specs.Moments.{Moment, Standing}
use Rattle.st_run.specs.Scenes.{IsScene}
use Rattle.st_run.specs.ReportedEvents.{Printed, reported_plain_event}

-- the machine, and the signals and cards that are still to come
pub record Together : Type 0 where
  pub machine : Overlap
  pub signals : List Signal
  pub cards : List (List ℕ)

-- the corresponding scene of the plain run
abbrev pub scene_of : Together → Scene
scene_of t = record { machine = t.machine.state; signals = t.signals; cards = t.cards }

-- the invariant: one to eight levels, delays in range, and a valid scene
pub record IsTogether (t : Together) : Type 0 where
  pub some : 1 ≤ t.machine.levels
  pub few : t.machine.levels ≤ 8
  pub delays : AreDelaysUpTo MOST_DELAY t.machine.delays
  pub scene : IsScene (scene_of t)

-- ---- between two ticks, before a completion

-- a machine between two ticks that waits for no settle, is not at rest, and has no late entry
pub record IsMachineReady (o : Overlap) : Type 0 where
  pub between : o
      ≡ machine_between_ticks o.delays o.levels o.state (interrupt o.state) o.issue o.now
  pub awake : rests o.state ≡ false
  pub early : o.now ≤ (oldest_row o).c

-- the point before the next entry: the tick is settled and the run continues; a pending interrupt
-- has been taken, and no entry should have completed at an earlier tick
pub record IsBeforeEntry (t : Together) : Type 0 where
  pub kept : IsTogether t
  pub ready : IsMachineReady t.machine

-- the corresponding point of the timed run, where the last entry completed at the tick
abbrev pub standing_of : ℕ → Together → Standing
standing_of tick t = record { scene = scene_of t; tick = tick; issue = t.machine.issue }

-- ---- after a completion, before any external event

-- the point after a completion: the tick is not settled yet
pub record IsBehindEntry (t : Together) : Type 0 where
  pub kept : IsTogether t
  pub banks : LastAnswers
  pub phase : t.machine.phase ≡ Completed banks
  pub table : t.machine.taken ≡ None
  pub counter : IfSome t.machine.mispredicted (λ h. h < 2 ^ 19)
  pub last : t.machine.issue.c ≡ t.machine.now

-- the corresponding moment of the timed run
abbrev pub moment_of : Together → Moment
moment_of t = record {
  scene = scene_of t;
  tick = t.machine.now;
  issue = t.machine.issue;
  mispredicted = is_some t.machine.mispredicted;
  dropped = levels_of t.machine;
  banks = banks_left (closing t.machine.phase);
}

-- ---- after some of the external events between two entries

-- since the machine was o only the state has changed, and the segment has ended or not; until it
-- has, only signals and orders without a card have changed the state
pub record IsSince (o : Overlap) (over : Bool) (m : Overlap) : Type 0 where
  pub machine : m ≡ record (if over then machine_after_segment o else o) { state = m.state }
  pub alike : over ≡ false → AreAlikeBesideOrders o.state m.state

-- ---- after all external events between two entries

-- the text, if there is one, is what the events print
abbrev pub AreTexts : Option (List ℕ) → List PlainEvent → Type 0
AreTexts text happened = map Printed (option_to_list text) ≡ map reported_plain_event happened
