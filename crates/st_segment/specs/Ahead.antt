-- The entries in flight after a state, with their rows: those prepared before a tick, and the reads
-- that are made for them.
--
-- Proved: by their `ensures` clauses these calls do what definitions here say: `look` (looking.rt
-- of st_plain), `level` (lookahead_shown.rt of st_ahead).
-- Read by: definitions in Alone, Moments of st_run, Overlap of st_ahead, Openings of st_refine, and
-- others.
-- Laws: PredictionsGoOn (specs/Laws.antt), SignalsArePassedOver (specs/Laws.antt),
-- LevelsAreTheEntriesAhead (specs/Laws.antt of st_ring), LookaheadsAreLevels (specs/Laws.antt of
-- st_ahead), and others.
-- Change: the meaning is fixed by docs/timetable.md, since the contracts of `st_top::stretch` and
-- `st_account::ledger` unfold to a definition here. The form is free, with the proofs that unfold
-- it.
use Rattle.std.specs.Prelude.{ℕ, zero, suc, ◌+◌, nat_lt, if◌then◌else◌, List, [], ◌∷◌, ◌++◌, Option, None}
use Rattle.st_state.specs.Machine.{Machine}
use Rattle.st_prep.specs.Plan.{plan}
use Rattle.st_prep.specs.declared.entries.Prepared.{Prepared}
use Rattle.st_exec.specs.Completion.{prediction}
use Rattle.st_banks.specs.declared.answers.LastAnswers.{LastAnswers}
use Rattle.st_rows.specs.Rows.{opening_issue, row_of_entry, issue_after_entry, reads_of_entry}
use Rattle.st_rows.specs.Asked.{made_before}
use Rattle.st_rows.specs.BusTimes.{Read}
use Rattle.st_rows.specs.declared.bus.Bus.{Bus}
use Rattle.st_rows.specs.declared.entry.Entry.{Entry}
use Rattle.st_rows.specs.declared.issue.IssueState.{IssueState}
use Rattle.st_rows.specs.declared.issue.EntryTicks.{EntryTicks}
use Rattle.st_segment.specs.Entries.{entry}

-- an entry in flight, with the state before it and, of a table instruction, the indicator
pub record Ahead : Type 0 where
  pub state : Machine
  pub table : Option ℕ
  pub issue : IssueState
  pub entry : Entry
  pub row : EntryTicks

-- the prepared entry
abbrev pub plan_of : Ahead → Prepared
plan_of a = plan a.state a.table

-- the first entries of the list, as long as they are prepared before the tick t
unfoldable pub prepared_before : ℕ → List Ahead → List Ahead
prepared_before t [] = []
prepared_before t (a ∷ rest) = if nat_lt a.row.p t then a ∷ prepared_before t rest else []

-- on a machine with the delays ds and n levels
module _ (ds : List ℕ) (n : ℕ) where
  -- the next entry of the state s, issued from f
  abbrev pub next_ahead : Option ℕ → Machine → IssueState → Ahead
  next_ahead table s f = let e = entry table s in
      record { state = s; table = table; issue = f; entry = e; row = row_of_entry ds n f e }

  -- the next k entries along the predicted states
  unfoldable pub ahead : ℕ → Option ℕ → Machine → IssueState → List Ahead
  ahead zero table s f = []
  ahead (suc k) table s f = next_ahead table s f
      ∷ ahead k None (prediction table s) (issue_after_entry ds n f (entry table s))

  -- the issue state after the next k entries
  unfoldable pub issue_behind : ℕ → Option ℕ → Machine → IssueState → IssueState
  issue_behind zero table s f = f
  issue_behind (suc k) table s f =
      issue_behind k None (prediction table s) (issue_after_entry ds n f (entry table s))

  -- the reads of the entries prepared before t and of the next, which may be accepted before t too
  unfoldable pub reads_before : ℕ → List Ahead → List Read
  reads_before t [] = []
  reads_before t (a ∷ rest) = reads_of_entry ds n a.issue a.entry
      ++ (if nat_lt a.row.p t then reads_before t rest else [])

  -- ---- the end of a segment

  -- the reads that may be made up to the tick, the segment's end: of the next and predicted entries
  abbrev pub reads_to_end : ℕ → Option ℕ → Machine → IssueState → Entry → List Read
  reads_to_end tick table s f e = reads_of_entry ds n f e
      ++ reads_before tick (ahead (suc n) None (prediction table s) (issue_after_entry ds n f e))

-- the last answers of the banks at the end of a segment, of the reads accepted before its tick
abbrev pub banks_at_end : List ℕ → ℕ → List Read → Bus → LastAnswers
banks_at_end ds tick reads bus = (made_before ds tick reads bus).banks

-- the issue state of the next segment: it starts a tick later, and one more for each dropped entry
abbrev pub issue_behind_end : LastAnswers → ℕ → ℕ → IssueState
issue_behind_end banks tick dropped = opening_issue banks (tick + 1 + dropped)
