-- Laws of charges: of each row, and of all rows of a run.
--
-- Proved: each law has its lemma in proofs/Laws.antt, with its name in small letters.
-- Claimed: docs/CLAIMS.md names ChargesAddUpToTheRun, ChargesFollow, ReadsOfAnEntryAreInTime,
-- RowsAreThoseOfTheRun, and others.
-- Change: docs/promises.txt lists each law, and the gate compares the list with the laws.
use Rattle.std.specs.Prelude.{ℕ, ◌≡◌, ◌+◌, ◌<◌, ◌≤◌, true, List, All, map, length, ◌-◌, Option}
use Rattle.st_rows.specs.Rows.{row_of_entry}
use Rattle.st_rows.specs.declared.entry.Entry.{Entry}
use Rattle.st_rows.specs.declared.issue.IssueState.{IssueState}
use Rattle.st_run.specs.Run.{Scene}
use Rattle.st_run.specs.Moments.{Moment, ends_segment, next_issue}
use Rattle.st_run.specs.TimedRun.{timed_run}
use Rattle.st_run.specs.Order.{last_completion}
use Rattle.st_ledger.specs.declared.charges.Charge.{Charge}
use Rattle.st_ledger.specs.declared.charges.Stage.TheVariants.{Restart, Executing}
use Rattle.st_ledger.specs.Charges.{Follow, charges, stage_at, all_ticks, ticks_for}
use Rattle.st_ledger.specs.Ledger.{entries_of, all_charges, all_costs, row_at, rows_told}
use Rattle.st_prep.specs.declared.entries.Words.{Words}
use Rattle.st_plain.specs.Uses.{uses_of_entry}
use Rattle.st_rows.specs.declared.uses.Use.{Use}
use Rattle.st_ledger.specs.Words.{IsReadInTime}
use Rattle.st_ledger.specs.Waits.{charge_waits}
use Rattle.st_ledger.specs.Sums.{all_stalled}

-- ---- one row

-- The charges of a row are consecutive, without a gap, from the completion of the previous entry to
-- its own, so they add up to the ticks between; the charge of executing is its cost. The completion
-- of the previous entry is that of the issue state, or precedes the segment that the issue state
-- opens.
pub record ChargesFollow : Type 0 where
  pub gapless : (ds : List ℕ) (n t : ℕ) (f : IssueState) (e : Entry) → t ≤ f.c →
      Follow t (row_of_entry ds n f e).c (charges t f (row_of_entry ds n f e))
  pub sum : (ds : List ℕ) (n t : ℕ) (f : IssueState) (e : Entry) → t ≤ f.c →
      t + all_ticks (charges t f (row_of_entry ds n f e)) ≡ (row_of_entry ds n f e).c
  pub cost : (ds : List ℕ) (n t : ℕ) (f : IssueState) (e : Entry) → t ≤ f.c →
      ticks_for Executing (charges t f (row_of_entry ds n f e)) ≡ e.cost
  pub restart : (ds : List ℕ) (n t : ℕ) (f : IssueState) (e : Entry) → t ≤ f.c →
      t + ticks_for Restart (charges t f (row_of_entry ds n f e)) ≡ f.c

-- Each tick of a charge belongs to the charge's stage, as determined by the start of the segment
-- and the row.
abbrev pub TicksBelongToTheirStage : Type 0
TicksBelongToTheirStage = (ds : List ℕ) (n t : ℕ) (f : IssueState) (e : Entry) →
    All (λ (x : Charge). (u : ℕ) → x.from < u → u ≤ x.to → stage_at f.c (row_of_entry ds n f e) u
    ≡ x.stage)
    (charges t f (row_of_entry ds n f e))

-- ---- a run

-- The rows of the ledger are those in the events of the run, with the same ticks.
abbrev pub RowsAreThoseOfTheRun : Type 0
RowsAreThoseOfTheRun = (ds snaps : List ℕ) (n left : ℕ) (c : Scene) →
    map (row_at ds n) (entries_of ds n left c) ≡ rows_told (timed_run ds n left c snaps)

-- All charges of a run are consecutive, without a gap, from tick 0 to the last tick, so they add up
-- to the ticks of the run; the charges of executing add up to the costs.
pub record ChargesAddUpToTheRun : Type 0 where
  pub gapless : (ds snaps : List ℕ) (n left : ℕ) (c : Scene) →
      Follow 0 (last_completion 0 (timed_run ds n left c snaps))
      (all_charges ds n (entries_of ds n left c))
  pub sum : (ds snaps : List ℕ) (n left : ℕ) (c : Scene) →
      all_ticks (all_charges ds n (entries_of ds n left c))
      ≡ last_completion 0 (timed_run ds n left c snaps)
  pub costs : (ds : List ℕ) (n left : ℕ) (c : Scene) →
      ticks_for Executing (all_charges ds n (entries_of ds n left c))
      ≡ all_costs (entries_of ds n left c)

-- A segment starts one tick after the end of the segment before, plus one tick for each dropped
-- entry.
abbrev pub SegmentsStartBehindTheirEnd : Type 0
SegmentsStartBehindTheirEnd = (m : Moment) → ends_segment m ≡ true →
    (next_issue m).c ≡ m.tick + 1 + length m.dropped

-- ---- the waits of a charge

-- The waits of a charge have at most as many ticks as the charge.
abbrev pub WaitsAreWithinTheirCharge : Type 0
WaitsAreWithinTheirCharge = (x : Charge) (uses before : List Use) →
    All IsReadInTime uses → All IsReadInTime before →
    all_stalled (charge_waits x uses before) ≤ x.to - x.from

-- Each word that an entry reads is accepted when it is wanted or later, and answered no earlier
-- than that.
abbrev pub ReadsOfAnEntryAreInTime : Type 0
ReadsOfAnEntryAreInTime = (ds : List ℕ) (n : ℕ) (f : IssueState) (e : Entry) (side : Option ℕ)
    (reads : Words) → All IsReadInTime (uses_of_entry ds n f e side reads)
