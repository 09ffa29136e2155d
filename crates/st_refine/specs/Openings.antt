-- The opening of a segment, and machines that are at one.
--
-- Proved: no `ensures` clause names a definition of this file.
-- Laws: RowsTellTheLevels (specs/Laws.antt), BanksHaveTheFirstReads (specs/Laws.antt),
-- OpeningsAreKept (specs/Laws.antt), OpeningsFollow (specs/Laws.antt).
-- Change: no page fixes these definitions, since no contract of a program unfolds to them; they
-- change together with the clauses, definitions and laws that name them. docs/inside.md describes
-- the subject.
use Rattle.std.specs.Prelude.{ℕ, zero, suc, ◌≡◌, ◌≤◌, ◌==◌, if◌then◌else◌, List, [], ◌∷◌, ◌++◌, All, Option, None, IfSome}
use Rattle.st_state.specs.Machine.{Machine}
use Rattle.st_state.specs.Interrupts.{state_with_signal}
use Rattle.st_exec.specs.Completion.{prediction}
use Rattle.st_exec.specs.Step.{step}
use Rattle.st_exec.specs.Transfer.{read_in, printed_out}
use Rattle.st_banks.specs.Bank.{idle_banks}
use Rattle.st_banks.specs.declared.answers.LastAnswers.{LastAnswers}
use Rattle.st_rows.specs.Rows.{opening_issue, issue_after_entry, reads_of_entry}
use Rattle.st_rows.specs.BusTimes.{Read}
use Rattle.st_rows.specs.declared.issue.IssueState.{IssueState}
use Rattle.st_segment.specs.Entries.{entry}
use Rattle.st_segment.specs.Predictions.{table_behind}
use Rattle.st_segment.specs.Ahead.{next_ahead, reads_to_end, banks_at_end, issue_behind_end}
use Rattle.st_ahead.specs.Forecast.{asked_ahead}
use Rattle.st_ahead.specs.Overlap.{closing, Overlap, last_tick_made}

-- ---- external changes

-- an external change: a signal; a reader order for the area at a word, with a card or without one;
-- a printer order
pub data Change : Type 0 where
  Signalled : ℕ → Change
  ReadIn : ℕ → Option (List ℕ) → Change
  PrintedOut : Change

-- the state after an external change
abbrev pub state_after_change : Change → Machine → Machine
state_after_change (Signalled i) s = state_with_signal s i
state_after_change (ReadIn w card) s = read_in s w card
state_after_change PrintedOut s = printed_out s

-- an external change, with the count of completed instructions at which it occurred
pub record ExternalEvents : Type 0 where
  pub done : ℕ
  pub change : Change

-- the state after those of the changes that occurred at its count of completed instructions, in
-- order
unfoldable pub with_changes : List ExternalEvents → Machine → Machine
with_changes [] s = s
with_changes (x ∷ xs) s = with_changes xs (if x.done == s.done then state_after_change x.change s
    else s)

-- ---- an opening

-- the opening of a segment: its first state, the interrupt of a leading table instruction, if there
-- is one, and the issue state at the start
pub record Opening : Type 0 where
  pub state : Machine
  pub table : Option ℕ
  pub issue : IssueState

-- the opening of the first segment
abbrev pub first_opening : Machine → Opening
first_opening s = record { state = s; table = None; issue = opening_issue idle_banks 0 }

-- the state after j steps from an opening, with external changes
unfoldable pub state_after : Opening → List ExternalEvents → ℕ → Machine
state_after o changes zero = with_changes changes o.state
state_after o changes (suc j) = with_changes changes (step (state_after o changes j))

module _ (ds : List ℕ) (n : ℕ) (o : Opening) (changes : List ExternalEvents) where
  -- the issue state after the first j entries of the segment, with the delays ds and n levels
  unfoldable pub issue_at : ℕ → IssueState
  issue_at zero = o.issue
  issue_at (suc j) =
      issue_after_entry ds n (issue_at j)
      (entry (table_behind j o.table) (state_after o changes j))

  -- the reads of the first j entries of the segment
  unfoldable pub reads_after : ℕ → List Read
  reads_after zero = []
  reads_after (suc j) =
      reads_after j
      ++ reads_of_entry ds n (issue_at j)
      (entry (table_behind j o.table) (state_after o changes j))

  -- the reads of a segment in the order of the timetable: those of its first j entries, of entry j,
  -- and of the n + 1 entries after the prediction of entry j; at most n of these are prepared
  -- before entry j completes
  unfoldable pub reads_of_segment : ℕ → List Read
  reads_of_segment j =
      reads_after (suc j)
      ++ asked_ahead ds n (suc n) None
      (prediction (table_behind j o.table) (state_after o changes j)) (issue_at (suc j))

  -- the last answers of the banks if the segment ends at the completion of entry j, after j others:
  -- of all its reads, including those of the entries in flight after entry j, the ones that are
  -- accepted before that tick are made
  unfoldable pub banks_behind : ℕ → LastAnswers
  banks_behind zero = o.issue.bus.banks
  banks_behind (suc j) =
      let a = next_ahead ds n (table_behind j o.table) (state_after o changes j) (issue_at j) in
      banks_at_end ds a.row.c
      (reads_after j ++ reads_to_end ds n a.row.c a.table a.state a.issue a.entry) o.issue.bus

-- the opening of the next segment, if this one ends there and the given number of entries is
-- flushed
unfoldable pub opening_behind : List ℕ → ℕ → ℕ → Opening → List ExternalEvents → ℕ → Opening
opening_behind ds n dropped o changes j = record {
  state = state_after o changes j;
  table = None;
  issue = issue_behind_end (banks_behind ds n o changes j) (issue_at ds n o changes j).c dropped;
}

-- ---- machines at an opening

-- the machine m is at the opening o with j completed entries: the state is that after j steps with
-- the changes so far, and the issue state is that after j entries; the first entry is the table
-- instruction until it completes; all j entries have completed by the last tick made; if the
-- segment may end at this tick, the banks are as after the reads that are accepted before it
pub record StandsAt (o : Opening) (changes : List ExternalEvents) (j : ℕ) (m : Overlap) : Type 0 where
  pub state : m.state ≡ state_after o changes j
  pub issue : m.issue ≡ issue_at m.delays m.levels o changes j
  pub table : m.taken ≡ table_behind j o.table
  pub done : 1 ≤ j → m.issue.c ≤ last_tick_made m
  pub before : All (λ x. x.done ≤ m.state.done) changes
  pub banks : IfSome (closing m.phase) (λ b. b
      ≡ banks_behind m.delays m.levels o changes j)
