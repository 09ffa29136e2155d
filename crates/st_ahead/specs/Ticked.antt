-- The effect of a tick on the look-ahead.
--
-- Proved: by their `ensures` clauses these calls do what definitions here say: `tick`
-- (lookahead_tick.rt).
-- Read by: definitions in Running.
-- Laws: none names a definition of this file itself.
-- Change: no page fixes these definitions, since no contract of a program unfolds to them; they
-- change together with the clauses, definitions and laws that name them. docs/inside.md describes
-- the subject.
use Rattle.std.specs.Prelude.{ℕ, ◌≡◌, ◌≢◌, List, Option, None, Some}
use Rattle.st_state.specs.Machine.{Machine}
use Rattle.st_exec.specs.Completion.{state_after_execution, prediction}
use Rattle.st_rows.specs.Rows.{row_of_entry, issue_after_entry}
use Rattle.st_rows.specs.declared.issue.IssueState.{IssueState}
use Rattle.st_segment.specs.Entries.{entry}
use Rattle.st_ring.specs.Levels.{IsCompleted}
use Rattle.st_ring.specs.declared.levels.Completed.{Completed}
use Rattle.st_ahead.specs.Forecast.{LookaheadView, IsLookahead}

module _ (ds : List ℕ) (n now : ℕ) (t : Option ℕ) (s : Machine) (f : IssueState) (v : LookaheadView)
    (u : Machine) (w : LookaheadView) where
  -- the oldest entry completes: u is the state after its step, and w is the look-ahead of the
  -- predicted state
  pub record IsDoneAt (done : Completed) : Type 0 where
    pub due : (row_of_entry ds n f (entry t s)).c ≡ now
    pub told : IsCompleted ds n t s f done
    pub state : u ≡ state_after_execution t s
    pub lookahead : IsLookahead ds n now now None (prediction t s)
        (issue_after_entry ds n f (entry t s)) w
    pub log : w.log ≡ v.log
    pub bus : w.next.words ≡ v.next.words

  -- a tick with a completion, or without one: in that case the state does not change, and w is its
  -- look-ahead with the operands that have arrived
  abbrev pub IsTicked : Option Completed → Type 0
  IsTicked None =
      (u ≡ s) × ((row_of_entry ds n f (entry t s)).c ≢ now) × IsLookahead ds n now now t s f w
  IsTicked (Some done) = IsDoneAt done
