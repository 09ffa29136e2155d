-- The effect of the calls of an overlapped machine, and their results.
--
-- Proved: by their `ensures` clauses these calls do what definitions here say: `end` (machine.rt),
-- `give_up` (machine.rt), `interrupt` (machine.rt), `read_in` (machine.rt), and others.
-- Read by: definitions in RunTo, RowsDone, Running, Decided, and others.
-- Laws: LevelsAreUnwound (specs/Laws.antt of st_refine), OpeningsAreKept (specs/Laws.antt of
-- st_refine), OpeningsFollow (specs/Laws.antt of st_refine), SignalsLeaveLevels (specs/Laws.antt of
-- st_refine), and others.
-- Change: no page fixes these definitions, since no contract of a program unfolds to them; they
-- change together with the clauses, definitions and laws that name them. docs/inside.md describes
-- the subject.
use Rattle.std.specs.Prelude.{ℕ, ◌≡◌, ◌+◌, ◌==◌, Bool, true, false, if◌then◌else◌, List, length, Option, None, Some, ◌⊎◌}
use Rattle.st_banks.specs.Bank.{idle_banks}
use Rattle.st_banks.specs.declared.answers.LastAnswers.{LastAnswers}
use Rattle.st_state.specs.Interrupts.{state_with_signal}
use Rattle.st_prep.specs.Plan.{plan}
use Rattle.st_exec.specs.Completion.{state_after_execution, is_mispredicted}
use Rattle.st_exec.specs.Step.{rests}
use Rattle.st_exec.specs.Transfer.{read_in, printed_out}
use Rattle.st_rows.specs.Rows.{issue_after_entry}
use Rattle.st_segment.specs.Ahead.{issue_behind_end}
use Rattle.st_ahead.specs.Overlap.{Phase, Ready, Ticked, Completed, Ended, Stopped, has_ended, closing, Overlap, oldest_entry, oldest_row, levels_of, banks_at_its_end, interrupt_due}
use Rattle.st_ahead.specs.declared.events.Row.{Row}
use Rattle.st_ahead.specs.declared.events.Event.{Event}
use Rattle.st_ahead.specs.declared.events.Event.TheVariants.{Passed, Done}
use Rattle.st_ahead.specs.declared.events.Settled.{Settled}
use Rattle.st_ahead.specs.declared.events.Settled.TheVariants.{Goes, Interrupt, Mispredicted, Waits}

-- ---- a tick

-- whether an entry completes at this tick
abbrev pub is_done : Overlap → Bool
is_done m = (oldest_row m).c == m.now

-- the row of the entry that completes
abbrev pub row_done : Overlap → Row
row_done m = record {
  number = m.state.done + 1;
  address = (plan m.state m.taken).place.address;
  p = (oldest_row m).p;
  r = (oldest_row m).r;
  c = m.now;
}

-- the predicted counter of the oldest entry, if it is mispredicted
abbrev pub mispredicted_counter : Overlap → Option ℕ
mispredicted_counter m =
    if is_mispredicted (plan m.state m.taken) m.state then Some (plan m.state m.taken).following else None

-- the machine after the completion of the oldest entry
unfoldable pub machine_after_completion : Overlap → Overlap
machine_after_completion m = record m {
  state = state_after_execution m.taken m.state;
  taken = None;
  mispredicted = mispredicted_counter m;
  issue = issue_after_entry m.delays m.levels m.issue (oldest_entry m);
  phase = Completed (banks_at_its_end m);
}

-- the machine after a tick, whose decision is owed
unfoldable pub machine_after_tick : Overlap → Overlap
machine_after_tick m = if is_done m then machine_after_completion m else record m { phase = Ticked }

-- the result of a tick
abbrev pub IsEvent : Overlap → Event → Type 0
IsEvent m Passed = is_done m ≡ false
IsEvent m (Done row) = (is_done m ≡ true) × (row ≡ row_done m)

-- ---- the end of a segment

-- the number of levels that are flushed
unfoldable pub drop_count : Overlap → ℕ
drop_count m = if has_ended m.phase then 0 else length (levels_of m)

-- the last answers of the banks at the opening of the next segment; if no entry completed at this
-- tick, the reads are forgotten
abbrev pub banks_left : Option LastAnswers → LastAnswers
banks_left (Some banks) = banks
banks_left None = idle_banks

-- the machine at the opening of the next segment
unfoldable pub machine_after_segment : Overlap → Overlap
machine_after_segment m =
    if has_ended m.phase then m
    else record m {
      issue = issue_behind_end (banks_left (closing m.phase)) m.now (length (levels_of m));
      phase = Ended;
    }

-- the machine at the end of a run
abbrev pub run_ended : Overlap → Overlap
run_ended m = record (machine_after_segment m) { phase = Stopped }

-- ---- the decision after a tick

-- the decision may be made: it is owed, and the run has not ended
abbrev pub may_settle : Phase → Bool
may_settle Ready = false
may_settle Ticked = true
may_settle (Completed banks) = true
may_settle Ended = true
may_settle Stopped = false

abbrev pub MaySettle : Overlap → Type 0
MaySettle m = may_settle m.phase ≡ true

-- the machine before the next tick, with no decision owed
abbrev pub machine_after_pass : Overlap → Overlap
machine_after_pass m = record m {
  phase = Ready;
  mispredicted = None;
  now = m.now + 1;
}

-- the machine after a decision: an interrupt is taken, or the machine waits, or a branch was
-- mispredicted, or the machine continues
abbrev pub settled_by : Option ℕ → Bool → Option ℕ → Overlap → Overlap
settled_by (Some i) at_rest mispredicted m = machine_after_pass
    (record (machine_after_segment m) { taken = Some i })
settled_by None true mispredicted m = machine_after_segment m
settled_by None false (Some h) m = machine_after_pass (machine_after_segment m)
settled_by None false None m = machine_after_pass m

-- the result of a decision: an interrupt, a wait, a mispredicted branch, or continuation
abbrev pub answer_by : Option ℕ → Bool → Option ℕ → Overlap → Settled
answer_by (Some i) at_rest mispredicted m = Interrupt i m.state.done m.state.ic (drop_count m)
answer_by None true mispredicted m = Waits
answer_by None false (Some h) m = Mispredicted (drop_count m)
answer_by None false None m = Goes

-- the machine after its tick is settled
unfoldable pub machine_after_settling : Overlap → Overlap
machine_after_settling m = settled_by (interrupt_due m) (rests m.state) m.mispredicted m

-- the result of settling a tick
unfoldable pub answer : Overlap → Settled
answer m = answer_by (interrupt_due m) (rests m.state) m.mispredicted m

-- ---- external events

-- the machine after a signal
abbrev pub signalled_by : ℕ → Overlap → Overlap
signalled_by i m = record m { state = state_with_signal m.state i }

-- an order may take effect after a tick that completed an entry, while its decision is owed and the
-- run has not ended
abbrev pub may_serve : Phase → Bool
may_serve Ready = false
may_serve Ticked = false
may_serve (Completed banks) = true
may_serve Ended = true
may_serve Stopped = false

abbrev pub MayServe : Overlap → Type 0
MayServe m = may_serve m.phase ≡ true

-- a signal may come before the first tick, and whenever an order may take effect
abbrev pub MaySignal : Overlap → Type 0
MaySignal m = ((m.phase ≡ Ready) × (m.now ≡ 0)) ⊎ MayServe m

-- the machine after the reader's order for the area at the word w; a card first ends the segment
abbrev pub read_in_by : ℕ → Option (List ℕ) → Overlap → Overlap
read_in_by w None m = record m { state = read_in m.state w None }
read_in_by w (Some card) m = record (machine_after_segment m) {
  state = read_in m.state w
      (Some card);
}

-- the number of levels that the reader's order flushes
abbrev pub dropped_by : Option (List ℕ) → Overlap → ℕ
dropped_by None m = 0
dropped_by (Some card) m = drop_count m

-- the machine after the printer's order
abbrev pub printed_by : Overlap → Overlap
printed_by m = record m { state = printed_out m.state }
