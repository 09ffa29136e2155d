-- The words that the entries of a segment use, as the ledger lists them, for the segment so far.
--
-- Proved: no `ensures` clause names a definition of this file.
-- Laws: WaitsAddUpToTheirStage (specs/WaitLaws.antt), WaitsAreTrue (specs/WaitLaws.antt),
-- WaitsEndBeforeTheirRow (specs/WaitLaws.antt), ReasonsAreTrue (specs/ReasonLaws.antt), and others.
-- Change: no page fixes these definitions, since no contract of a program unfolds to them; they
-- change together with the clauses, definitions and laws that name them. docs/ledger.md describes
-- the subject.
use Rattle.std.specs.Prelude.{ℕ, ◌≡◌, List, [], ◌∷◌, ◌++◌, reverse, Option}
use Rattle.st_banks.specs.declared.answers.LastAnswers.{LastAnswers}
use Rattle.st_prep.specs.declared.entries.Words.{Words}
use Rattle.st_rows.specs.Ranges.{IsEntryInTime}
use Rattle.st_rows.specs.Rows.{opening_issue, issue_after_entry, row_of_entry}
use Rattle.st_rows.specs.declared.entry.Entry.{Entry}
use Rattle.st_rows.specs.declared.issue.IssueState.{IssueState}
use Rattle.st_segment.specs.Entries.{side_to_read}
use Rattle.st_ledger.specs.Charges.{charges}
use Rattle.st_ledger.specs.declared.charges.Charge.{Charge}
use Rattle.st_plain.specs.Uses.{uses_of_entry}
use Rattle.st_rows.specs.declared.uses.Use.{Use}
use Rattle.st_ledger.specs.Waits.{charge_waits}
use Rattle.st_ledger.specs.declared.waits.Wait.{Wait}

-- an entry, with its index-side word and its operand words, including registers
pub record Told : Type 0 where
  pub entry : Entry
  pub side : Option ℕ
  pub reads : Words

-- an entry that a machine can have
pub record IsTold (x : Told) : Type 0 where
  pub side : x.entry.side ≡ side_to_read x.side
  pub entry : IsEntryInTime x.entry

-- definitions on a machine with the delays ds and n levels, in a segment that starts at a tick with
-- these banks; the entries are listed youngest first
module _ (ds : List ℕ) (n : ℕ) (banks : LastAnswers) (start : ℕ) where
  -- the issue state after these entries
  unfoldable pub issue_of : List Told → IssueState
  issue_of [] = opening_issue banks start
  issue_of (x ∷ older) = issue_after_entry ds n (issue_of older) x.entry

  -- the words that an entry after these uses, in the order of their reads
  unfoldable pub uses_behind : List Told → Told → List Use
  uses_behind older x = uses_of_entry ds n (issue_of older) x.entry x.side x.reads

  -- the words that the last entry uses; none if there is no entry
  unfoldable pub last_uses : List Told → List Use
  last_uses [] = []
  last_uses (x ∷ older) = uses_behind older x

  -- the words that all entries use, youngest first
  unfoldable pub all_uses : List Told → List Use
  all_uses [] = []
  all_uses (x ∷ older) = reverse (uses_behind older x) ++ all_uses older

  -- the charges of an entry after these, if the run's last entry completed at this tick
  abbrev pub charges_behind_all : ℕ → List Told → Told → List Charge
  charges_behind_all t older x =
      charges t (issue_of older) (row_of_entry ds n (issue_of older) x.entry)

  -- the waits of one charge of an entry after these
  abbrev pub waits_behind : List Told → Told → Charge → List Wait
  waits_behind older x c = charge_waits c (uses_behind older x) (last_uses older)
