-- The abstract state of an overlapped machine, and values derived from it.
--
-- Proved: by their `ensures` clauses these calls do what definitions here say: `run_to`
-- (lookahead_run.rt), `has_ended` (machine.rt), `interrupt_due` (machine.rt), `last_tick`
-- (machine.rt), and others.
-- Read by: definitions in Calls, Inside, Shown, Decided, and others.
-- Laws: LevelsAreUnwound (specs/Laws.antt of st_refine), OpeningsFollow (specs/Laws.antt of
-- st_refine), RowsTellTheLevels (specs/Laws.antt of st_refine), TheStateIsSplit (specs/Laws.antt of
-- st_refine), and others.
-- Change: no page fixes these definitions, since no contract of a program unfolds to them; they
-- change together with the clauses, definitions and laws that name them. docs/inside.md describes
-- the subject.
use Rattle.std.specs.Prelude.{ℕ, ◌-◌, Bool, true, false, if◌then◌else◌, is_none, List, Option, None, Some}
use Rattle.st_state.specs.Machine.{Machine}
use Rattle.st_exec.specs.Step.{interrupt}
use Rattle.st_banks.specs.declared.answers.LastAnswers.{LastAnswers}
use Rattle.st_banks.specs.Bank.{idle_banks}
use Rattle.st_rows.specs.Rows.{opening_issue, row_of_entry}
use Rattle.st_rows.specs.declared.entry.Entry.{Entry}
use Rattle.st_rows.specs.declared.issue.IssueState.{IssueState}
use Rattle.st_rows.specs.declared.issue.EntryTicks.{EntryTicks}
use Rattle.st_segment.specs.Entries.{entry}
use Rattle.st_segment.specs.Ahead.{Ahead, ahead, prepared_before, reads_to_end, banks_at_end}

-- ---- phases

-- the phase of a machine between two calls: the next tick may be made (`Ready`); or the decision
-- after the last tick is owed, at which no entry completed (`Ticked`), or one did, and the banks
-- have these last answers if the segment ends here (`Completed`), or one did, and the segment has
-- ended (`Ended`); or the run has ended at the last tick (`Stopped`)
pub data Phase : Type 0 where
  Ready : Phase
  Ticked : Phase
  Completed : LastAnswers → Phase
  Ended : Phase
  Stopped : Phase

-- whether the last tick is not passed: its decision is owed, or the run has ended at it
abbrev pub is_owed : Phase → Bool
is_owed Ready = false
is_owed Ticked = true
is_owed (Completed banks) = true
is_owed Ended = true
is_owed Stopped = true

-- whether the segment has ended at the last tick
abbrev pub has_ended : Phase → Bool
has_ended Ready = false
has_ended Ticked = false
has_ended (Completed banks) = false
has_ended Ended = true
has_ended Stopped = true

-- the last answers of the banks if the segment ends at the last tick, which completed an entry
abbrev pub closing : Phase → Option LastAnswers
closing Ready = None
closing Ticked = None
closing (Completed banks) = Some banks
closing Ended = None
closing Stopped = None

-- ---- the machine

-- the delays of reads and the number of levels; the committed state; the indicator of an interrupt
-- that was taken, until its table instruction completes; the predicted counter, if a branch was
-- mispredicted at this tick; the issue state of the oldest uncompleted entry; the next tick if the
-- machine is ready for it, or else the last one; and the phase
pub record Overlap : Type 0 where
  pub delays : List ℕ
  pub levels : ℕ
  pub state : Machine
  pub taken : Option ℕ
  pub mispredicted : Option ℕ
  pub issue : IssueState
  pub now : ℕ
  pub phase : Phase

-- a machine between two ticks
abbrev pub machine_between_ticks : List ℕ → ℕ → Machine → Option ℕ → IssueState → ℕ → Overlap
machine_between_ticks ds n s t f now = record {
  delays = ds;
  levels = n;
  state = s;
  taken = t;
  mispredicted = None;
  issue = f;
  now = now;
  phase = Ready;
}

-- a machine before its first tick
abbrev pub machine_at_start : List ℕ → ℕ → Machine → Overlap
machine_at_start ds n s = machine_between_ticks ds n s None (opening_issue idle_banks 0) 0

-- a state with the predicted counter of a mispredicted branch, if there is one
abbrev pub with_counter : Option ℕ → Machine → Machine
with_counter None s = s
with_counter (Some h) s = record s { ic = h }

-- the state that the entries in flight follow: after a mispredicted branch, with the predicted
-- counter
unfoldable pub state_ahead : Overlap → Machine
state_ahead m = if has_ended m.phase then m.state else with_counter m.mispredicted m.state

-- the oldest uncompleted entry
abbrev pub oldest_entry : Overlap → Entry
oldest_entry m = entry m.taken (state_ahead m)

-- the row of the oldest uncompleted entry
unfoldable pub oldest_row : Overlap → EntryTicks
oldest_row m = row_of_entry m.delays m.levels m.issue (oldest_entry m)

-- the next k entries along the predicted states
abbrev pub entries_ahead : ℕ → Overlap → List Ahead
entries_ahead k m = ahead m.delays m.levels k m.taken (state_ahead m) m.issue

-- the levels: the uncompleted entries that are prepared before this tick
unfoldable pub levels_of : Overlap → List Ahead
levels_of m = prepared_before m.now (entries_ahead m.levels m)

-- the last answers of the banks if the segment ends at the completion of the oldest entry: after
-- the reads of this entry and of those after it that are accepted before that tick
unfoldable pub banks_at_its_end : Overlap → LastAnswers
banks_at_its_end m =
    banks_at_end m.delays m.now (reads_to_end m.delays m.levels m.now m.taken m.state m.issue
    (oldest_entry m)) m.issue.bus

-- the indicator whose interrupt is taken before the next entry
abbrev pub interrupt_due : Overlap → Option ℕ
interrupt_due m = if is_none m.taken then interrupt m.state else None

-- the last tick made, 0 before the first one
abbrev pub last_tick_made : Overlap → ℕ
last_tick_made m = if is_owed m.phase then m.now else m.now - 1
