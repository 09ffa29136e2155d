-- Preconditions and effects of writing charges with their waits on the totals of waits. A row uses
-- some words, and the row before it others.
--
-- Proved: by their `ensures` clauses these calls do what definitions here say: `add_part`
-- (waits.rt), `add_waits` (waits.rt), `write_part` (waits.rt), `write_parts` (waits.rt).
-- Read by: definitions in TellingWaits.
-- Laws: none names a definition of this file itself.
-- Change: no page fixes these definitions, since no contract of a program unfolds to them; they
-- change together with the clauses, definitions and laws that name them. docs/ledger.md describes
-- the subject.
use Rattle.std.specs.Prelude.{ℕ, ◌≡◌, ◌+◌, true, List}
use Rattle.st_ledger.specs.Charges.{all_ticks}
use Rattle.st_ledger.specs.declared.charges.Charge.{Charge}
use Rattle.st_ledger.specs.declared.charges.Stage.{Stage}
use Rattle.st_rows.specs.declared.uses.Use.{Use}
use Rattle.st_ledger.specs.Sums.{AreWaitsWithin, is_parted, waited_at, row_stalled}
use Rattle.st_ledger.specs.Words.{AreWordsInTime}
use Rattle.st_ledger.specs.declared.sums.WaitTotals.{WaitTotals}
use Rattle.st_ledger.specs.declared.waits.Stall.{Stall}

-- The waits of charges after tick `from` can be written: words are accepted and answered in time,
-- and no total is greater than that tick.
pub record AreWaitsReady (uses before : List Use) (from : ℕ) (sums : WaitTotals) : Type 0 where
  pub used : AreWordsInTime uses
  pub earlier : AreWordsInTime before
  pub within : AreWaitsWithin from sums

-- The waits of charges are added to the totals, none of which is then greater than the tick at
-- which the charges end.
pub record AddsWaits (uses before : List Use) (from : ℕ) (charges : List Charge)
    (old new : WaitTotals) : Type 0 where
  pub within : AreWaitsWithin (from + all_ticks charges) new
  pub sums : (r : Stage) (s : Stall) → is_parted r ≡ true →
      waited_at r s new ≡ waited_at r s old + row_stalled r s uses before charges
