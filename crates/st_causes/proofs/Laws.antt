-- Proofs of the laws of the ledger of each run.
use Rattle.std.specs.Prelude.{true, if◌then◌else◌, All}
use Rattle.std.proofs.Common.{◌≡◌, ℕ, ◌+◌, ◌-◌, ◌≤◌, ◌<◌, [], ◌∷◌, refl, arith}
use Rattle.std.proofs.lemmas.List.Elements.{All-weaker}
use Rattle.st_run.specs.Moments.{moment_at_start, next_row, entry_of_moment}
use Rattle.st_ledger.specs.Charges.{all_ticks, ticks_for, is_stage}
use Rattle.st_ledger.specs.Ledger.{charges_at}
use Rattle.st_ledger.specs.declared.charges.Charge.{Charge}
use Rattle.st_ledger.specs.declared.charges.Stage.{Stage}
use Rattle.st_ledger.specs.declared.charges.Stage.TheVariants.{Restart, Instruction, Address, Index, Preparing, Operand, Executing}
use Rattle.st_rows.specs.declared.uses.Use.{Use}
use Rattle.st_ledger.specs.Causes.{is_cause, IsTrueOf, FallTo}
use Rattle.st_ledger.specs.Paths.{IsReason}
use Rattle.st_ledger.specs.Served.{served, reads_told, AreBrought, IsWrittenBy}
use Rattle.st_ledger.specs.Sums.{is_parted}
use Rattle.st_rows.specs.Rows.{reads_of_entry}
use Rattle.st_ledger.specs.Waits.{charge_waits}
use Rattle.st_ledger.specs.Words.{read_of}
use Rattle.st_ledger.specs.declared.waits.Wait.{Wait}
use Rattle.st_lines.specs.declared.lines.Why.TheVariants.{Run}
use Rattle.st_account.specs.LedgerSums.{ledger_sums}
use Rattle.st_account.specs.Text.{formed_at, uses_at}
use Rattle.st_causes.specs.Laws.{LedgersTellWhereTicksWent, TotalsAreTheLedgerWithoutRows, TablesHaveTheRowsOfTheRun, RowsAreAPartOfTheLedger, OneEntryIsBegun, StageSumsAddUp, WaitSumsAddUp, UsesOfARunAreTrue, WaitsOfARunAreTrue, WaitsOfARunCoverTheirCharges, NamedReadsAreMade, ReasonsStandWhereTicksAreLost, ReasonsOfARunAreTrue}
use Rattle.st_causes.specs.Runs.{ToldRow, because_at}
use Rattle.st_causes.specs.Summed.{all_summed}
use Rattle.st_account.proofs.RowTotals.{charges-told, waits-told}
use Rattle.st_causes.proofs.RunLemmas.{row-read, row-brought, row-written, row-true, row-covered, row-ended, row-reasoned, each-told, sums-from, at-start, entries-fit}
use Rattle.st_causes.proofs.BankRuns.{opened-banked, each-banked}
use Rattle.st_causes.proofs.BegunLemmas.{one-begun}
use Rattle.st_causes.proofs.TextLemmas.{ledger-told}
use Rattle.st_causes.proofs.RowsLemmas.{from-row, without-row}
use Rattle.st_causes.proofs.SumsLemmas.{without-rows}
use Rattle.st_causes.proofs.TableLemmas.{rows-told}
use Rattle.st_causes.proofs.TickLemmas.{named-early, each-lost}

-- ---- the text

pub ledgers_tell_where_ticks_went : LedgersTellWhereTicksWent
ledgers_tell_where_ticks_went o ds n left c = ledger-told o ds n left c

pub totals_are_the_ledger_without_rows : TotalsAreTheLedgerWithoutRows
unfolding ledger_sums
totals_are_the_ledger_without_rows = record {
  totals = λ o ds n left c. without-rows o ds n left c;
  tables = λ o ds n left cards c. refl;
}

pub tables_have_the_rows_of_the_run : TablesHaveTheRowsOfTheRun
tables_have_the_rows_of_the_run = record {
  rows = λ o ds n left c. rows-told o ds n left 0 Run [] [] (moment_at_start c);
  charges = λ o ds n left c s. charges-told o ds n s left 0 Run [] (moment_at_start c);
  waits = λ o ds n left c r s. waits-told o ds n r s left 0 Run [] (moment_at_start c);
}

pub rows_are_a_part_of_the_ledger : RowsAreAPartOfTheLedger
rows_are_a_part_of_the_ledger = record {
  begun = λ o ds n left skipped c less. from-row o ds n left skipped c less;
  ended = λ o ds n left skipped c few. without-row o ds n left skipped c few;
}

pub one_entry_is_begun : OneEntryIsBegun
one_entry_is_begun ds n t s f some few costs = one-begun ds n t s f some few costs

-- ---- sums

pub stage_sums_add_up : StageSumsAddUp
unfolding all_summed ticks_for all_ticks
stage_sums_add_up [] = refl
stage_sums_add_up (x ∷ xs) = omega (arith, stage_sums_add_up xs, seven x.stage (x.to - x.from))
  where
    seven : (s : Stage) (d : ℕ) → (if is_stage Restart s then d else 0) + (if is_stage Instruction s then d else 0) + (if is_stage Address s then d else 0)
        + (if is_stage Index s then d else 0) + (if is_stage Preparing s then d else 0) + (if is_stage Operand s then d else 0) + (if is_stage Executing s then d else 0) ≡ d
    seven Restart d = omega arith
    seven Instruction d = omega arith
    seven Address d = omega arith
    seven Index d = omega arith
    seven Preparing d = omega arith
    seven Operand d = omega arith
    seven Executing d = omega arith

pub wait_sums_add_up : WaitSumsAddUp
wait_sums_add_up ds n left c s is parted = sums-from ds n s parted left (moment_at_start c) [] [] (at-start ds n c) (entries-fit ds n left (moment_at_start c) is)

-- ---- the words that rows use

pub uses_of_a_run_are_true : UsesOfARunAreTrue
uses_of_a_run_are_true = record {
  read = λ ds n left c is.
      each-told ds n (λ (r : ToldRow). reads_told r.uses ≡ served ds (reads_of_entry ds n r.standing.issue (entry_of_moment r.standing)) r.standing.issue.bus)
      (λ p us segment fit comes. row-read ds n p us segment fit comes) left (moment_at_start c) [] [] (at-start ds n c) (entries-fit ds n left (moment_at_start c) is);
  held = λ ds n left c is.
      each-told ds n (λ (r : ToldRow). AreBrought r.segment)
      (λ p us segment fit comes. row-brought ds n p us segment fit comes) left (moment_at_start c) [] [] (at-start ds n c) (entries-fit ds n left (moment_at_start c) is);
  banked = λ ds n left c. each-banked ds n left (moment_at_start c) [] [] (moment_at_start c).banks (opened-banked (moment_at_start c).banks refl 0) refl;
  forwarded = λ ds n left c is.
      each-told ds n (λ (r : ToldRow). All (IsWrittenBy r.standing.issue.past) r.uses)
      (λ p us segment fit comes. row-written ds n p us segment fit comes) left (moment_at_start c) [] [] (at-start ds n c) (entries-fit ds n left (moment_at_start c) is);
}

-- ---- waits

pub waits_of_a_run_are_true : WaitsOfARunAreTrue
waits_of_a_run_are_true ds n left c is =
    each-told ds n (λ (r : ToldRow). All (λ (x : Charge). All (IsTrueOf r.segment) (charge_waits x r.uses r.before)) (charges_at ds n r.standing))
    (λ p us segment fit comes. row-true ds n p us segment fit comes) left (moment_at_start c) [] [] (at-start ds n c) (entries-fit ds n left (moment_at_start c) is)

pub waits_of_a_run_cover_their_charges : WaitsOfARunCoverTheirCharges
waits_of_a_run_cover_their_charges ds n left c is =
    each-told ds n (λ (r : ToldRow). All (λ (x : Charge). is_parted x.stage ≡ true → FallTo x.from x.to (charge_waits x r.uses r.before)) (charges_at ds n r.standing))
    (λ p us segment fit comes. row-covered ds n p us segment fit comes) left (moment_at_start c) [] [] (at-start ds n c) (entries-fit ds n left (moment_at_start c) is)

pub named_reads_are_made : NamedReadsAreMade
named_reads_are_made ds n left c is =
    each-told ds n (λ (r : ToldRow). All (λ (x : Charge). All (λ (w : Wait). (t : ℕ) (u : Use) → w.from ≤ t → t < w.to → is_cause w.why w.read w.to t u ≡ true
    → (read_of u.supply).accept < (next_row ds n r.standing).c) (charge_waits x r.uses r.before)) (charges_at ds n r.standing))
    (λ p us segment fit comes.
    All-weaker (λ (x : Charge). All (λ (w : Wait). w.to < (next_row ds n p).c) (charge_waits x (uses_at ds n p) us))
    (λ (x : Charge). All (λ (w : Wait). (t : ℕ) (u : Use) → w.from ≤ t → t < w.to → is_cause w.why w.read w.to t u ≡ true
    → (read_of u.supply).accept < (next_row ds n p).c) (charge_waits x (uses_at ds n p) us))
    (λ x ends.
    All-weaker (λ (w : Wait). w.to < (next_row ds n p).c)
    (λ (w : Wait). (t : ℕ) (u : Use) → w.from ≤ t → t < w.to → is_cause w.why w.read w.to t u ≡ true → (read_of u.supply).accept < (next_row ds n p).c)
    (λ w end t u late early by. omega (arith, end, named-early w.why w.read w.to t u early by)) (charge_waits x (uses_at ds n p) us) ends)
    (charges_at ds n p) (row-ended ds n p us segment fit comes))
    left (moment_at_start c) [] [] (at-start ds n c) (entries-fit ds n left (moment_at_start c) is)

-- ---- reasons

pub reasons_stand_where_ticks_are_lost : ReasonsStandWhereTicksAreLost
reasons_stand_where_ticks_are_lost ds n left c = each-lost ds n left [] [] (moment_at_start c) refl

pub reasons_of_a_run_are_true : ReasonsOfARunAreTrue
reasons_of_a_run_are_true ds n left c is least most =
    each-told ds n (λ (r : ToldRow). IsReason ds n r.standing.issue (entry_of_moment r.standing) (formed_at ds r.standing) r.before (because_at ds n r.before r.standing))
    (λ p us segment fit comes. row-reasoned ds n least most p us segment fit comes) left (moment_at_start c) [] [] (at-start ds n c) (entries-fit ds n left (moment_at_start c) is)
