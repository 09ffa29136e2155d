-- The invariant of a machine, and its abstract state.
--
-- Proved: by their `ensures` clauses these calls do what definitions here say: `end`
-- (lookahead.rt).
-- Read by: definitions in Decided, Running.
-- Laws: none names a definition of this file itself.
-- Change: no page fixes these definitions, since no contract of a program unfolds to them; they
-- change together with the clauses, definitions and laws that name them. docs/inside.md describes
-- the subject.
use Rattle.std.specs.Prelude.{ℕ, ◌≡◌, ◌+◌, ◌<◌, ◌≤◌, ◌^◌, Bool, true, false, All, List, Option, None, ⊤}
use Rattle.st_bits.specs.Indicators.{IsIndicatorIfAny}
use Rattle.st_bits.specs.declared.limits.TheConstants.{MOST_DELAY}
use Rattle.st_state.specs.Machine.{Machine, IsMachine}
use Rattle.st_banks.specs.declared.answers.LastAnswers.{LastAnswers}
use Rattle.st_exec.specs.Step.{rests}
use Rattle.st_rows.specs.Notes.{answers_left}
use Rattle.st_rows.specs.Rows.{opening_issue}
use Rattle.st_ring.specs.Levels.{oldest_issue}
use Rattle.st_ahead.specs.Overlap.{Phase, Ready, Ticked, Completed, Ended, Stopped, is_owed, has_ended, Overlap, state_ahead, interrupt_due, last_tick_made}
use Rattle.st_ahead.specs.Forecast.{LookaheadView, IsLookahead, IsOpened}
use Rattle.st_ahead.specs.declared.phase.Phase.{Phase as PhaseField}
use Rattle.st_ahead.specs.declared.phase.Phase.TheVariants as fields

-- the last answers of the banks after the reads that are accepted before the tick
abbrev pub answers_before : ℕ → LookaheadView → LastAnswers
answers_before now v = record { ticks = answers_left now v.log v.next.words.bus.banks.ticks }

-- the phase, from the field; the banks are those at an end here
abbrev pub phase_of : LastAnswers → PhaseField → Phase
phase_of banks fields.Ready = Ready
phase_of banks fields.Ticked = Ticked
phase_of banks fields.Completed = Completed banks
phase_of banks fields.Ended = Ended
phase_of banks fields.Stopped = Stopped

-- the abstract state, from the fields
abbrev pub overlap_of : ℕ → List ℕ → Machine → Option ℕ → Option ℕ → ℕ → PhaseField →
    LookaheadView → Overlap
overlap_of n delays state taken mispredicted now phase v = record {
  delays = delays;
  levels = n;
  state = state;
  taken = taken;
  mispredicted = mispredicted;
  issue = oldest_issue v.levels.plans v.issue;
  now = now;
  phase = phase_of (answers_before now v) phase;
}

-- the segment has ended at the tick `now`, and v is the look-ahead that opens the next one
pub record IsBetween (now : ℕ) (t : Option ℕ) (s : Machine) (v : LookaheadView) : Type 0 where
  pub machine : IsMachine s
  pub opened : IsOpened t s (opening_issue (answers_before now v) v.issue.c) v
  pub banks : All (λ b. b ≤ v.issue.c + MOST_DELAY) (answers_before now v).ticks
  pub later : now + 1 ≤ v.issue.c
  pub soon : v.issue.c ≤ now + 9

-- v is the look-ahead of the machine, or opens the next segment if one has ended at this tick
abbrev pub IsLookaheadOf : Bool → Overlap → LookaheadView → Type 0
IsLookaheadOf false m v = IsLookahead m.delays m.levels (last_tick_made m) m.now m.taken
    (state_ahead m) m.issue v
IsLookaheadOf true m v = IsBetween m.now m.taken m.state v

-- the number of the tick is in its range
abbrev pub IsInTime : Bool → ℕ → Type 0
IsInTime true now = now < 2 ^ 63
IsInTime false now = now ≤ 2 ^ 63

-- the decision is to continue: no interrupt is due, the machine is not at rest, and no branch was
-- mispredicted
pub record Continues (m : Overlap) : Type 0 where
  pub due : interrupt_due m ≡ None
  pub goes : rests m.state ≡ false
  pub right : m.mispredicted ≡ None

-- before the first tick interrupts are disabled, and nothing waits
pub record IsUnstarted (m : Overlap) : Type 0 where
  pub enabled : m.state.enabled ≡ false
  pub waiting : m.state.waiting ≡ false
  pub taken : m.taken ≡ None
  pub start : m.issue.c ≡ 0

-- what holds in a phase: if no entry completed at the last tick, the decision is to continue; if one
-- did, no table instruction comes next, and until the segment ends the issue state is that after
-- it, and the banks have answers in the range of delays
abbrev pub IsInPhase : Phase → Overlap → Type 0
IsInPhase Ready m = Continues m × (m.now ≡ 0 → IsUnstarted m)
IsInPhase Ticked m = Continues m
IsInPhase (Completed banks) m = (m.taken ≡ None) × (m.issue.c ≡ m.now)
    × All (λ b. b ≤ m.now + MOST_DELAY) banks.ticks
IsInPhase Ended m = m.taken ≡ None
IsInPhase Stopped m = ⊤

-- the invariant of a machine
pub record IsInside (m : Overlap) (v : LookaheadView) : Type 0 where
  pub some : 1 ≤ m.levels
  pub few : m.levels ≤ 8
  pub lookahead : IsLookaheadOf (has_ended m.phase) m v
  pub indicator : IsIndicatorIfAny m.taken
  pub in_time : IsInTime (is_owed m.phase) m.now
  pub in_phase : IsInPhase m.phase m
