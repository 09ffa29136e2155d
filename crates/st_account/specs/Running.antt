-- The premises of a whole run, and the totals of its charges and waits.
--
-- Proved: by their `ensures` clauses these calls do what definitions here say: `write_run`
-- (running.rt).
-- Laws: none names a definition of this file itself.
-- Change: no page fixes these definitions, since no contract of a program unfolds to them; they
-- change together with the clauses, definitions and laws that name them. docs/ledger.md describes
-- the subject.
use Rattle.std.specs.Prelude.{ℕ, ◌≡◌, ◌≤◌, true, List, [], All, length}
use Rattle.std.specs.List.{AllPass}
use Rattle.st_bits.specs.Storage.{words_of_storage}
use Rattle.st_bits.specs.declared.limits.TheConstants.{MOST_INSTRUCTIONS}
use Rattle.st_card.specs.Controls.{Asked}
use Rattle.st_card.specs.Limits.{is_signal}
use Rattle.st_run.specs.Moments.{Moment}
use Rattle.st_run.specs.Reached.{IsCard}
use Rattle.st_ledger.specs.Charges.{ticks_for}
use Rattle.st_ledger.specs.Ledger.{entries_from, all_charges}
use Rattle.st_ledger.specs.Sums.{is_parted, waited_at}
use Rattle.st_ledger.specs.Totals.{sum_at}
use Rattle.st_ledger.specs.declared.charges.Stage.{Stage}
use Rattle.st_ledger.specs.declared.sums.WaitTotals.{WaitTotals}
use Rattle.st_ledger.specs.declared.totals.Totals.{Totals}
use Rattle.st_ledger.specs.declared.waits.Stall.{Stall}
use Rattle.st_account.specs.Text.{stalled_from}
use Rattle.st_account.specs.declared.running.Ready.{Ready}

-- a run that is ready can be written with these requests, up to so many rows: its machine is in its
-- initial state and has one to eight levels, and its cards, signals and budget are within the limits
pub record CanRun (r : Ready) (c : Asked) (budget : ℕ) : Type 0 where
  pub fresh : r.state.done ≡ 0
  pub cards : All IsCard r.cards
  pub levels : (1 ≤ r.levels) × (r.levels ≤ 8)
  pub signals : AllPass is_signal c.signals
  pub limit : budget ≤ MOST_INSTRUCTIONS
  pub size : length r.words.items ≡ words_of_storage

-- the totals are those of the charges and of the waits of the entries from the first moment m on
pub record HasTotals (ds : List ℕ) (n left : ℕ) (m : Moment) (sums : Totals) (waits : WaitTotals) :
    Type 0 where
  pub charged : (s : Stage) →
      sum_at s sums ≡ ticks_for s (all_charges ds n (entries_from ds n left m))
  pub waited : (r : Stage) (s : Stall) → is_parted r ≡ true →
      waited_at r s waits ≡ stalled_from r s ds n left [] m
