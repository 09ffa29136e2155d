-- Laws of the ledger of each run: its lines account for the ticks of its rows, and the facts in
-- them are true. The machine has the delays ds and n levels, and the run has a budget.
--
-- Proved: each law has its lemma in proofs/Laws.antt, with its name in small letters.
-- Claimed: docs/CLAIMS.md names LedgersTellWhereTicksWent, NamedReadsAreMade, OneEntryIsBegun,
-- ReasonsOfARunAreTrue, and others.
-- Change: docs/promises.txt lists each law, and the gate compares the list with the laws.
use Rattle.std.specs.Prelude.{ℕ, ◌≡◌, ◌+◌, ◌≤◌, ◌<◌, true, nat_lt, suc, length, List, [], ◌∷◌, ◌++◌, map, All, Option}
use Rattle.std.specs.List.{filter}
use Rattle.st_state.specs.Machine.{Machine}
use Rattle.st_banks.specs.declared.answers.LastAnswers.{LastAnswers}
use Rattle.st_rows.specs.Rows.{reads_of_entry}
use Rattle.st_rows.specs.declared.issue.IssueState.{IssueState}
use Rattle.st_segment.specs.Ahead.{Ahead, ahead}
use Rattle.st_run.specs.Run.{Scene}
use Rattle.st_run.specs.Scenes.{IsScene}
use Rattle.st_run.specs.Moments.{moment_at_start, next_row, entry_of_moment}
use Rattle.st_report.specs.Line.{ticks_line}
use Rattle.st_ledger.specs.Charges.{all_ticks, ticks_for}
use Rattle.st_ledger.specs.Ledger.{entries_of, charges_at, all_charges}
use Rattle.st_ledger.specs.Totals.{stages, sums_by}
use Rattle.st_ledger.specs.declared.charges.Charge.{Charge}
use Rattle.st_ledger.specs.declared.charges.Stage.{Stage}
use Rattle.st_ledger.specs.declared.charges.Stage.TheVariants.{Executing}
use Rattle.st_plain.specs.Looking.{first_late}
use Rattle.st_rows.specs.declared.uses.Use.{Use}
use Rattle.st_ledger.specs.Causes.{is_cause, IsTrueOf, FallTo}
use Rattle.st_ledger.specs.Paths.{IsReason}
use Rattle.st_ledger.specs.Served.{served, reads_told, AreBankedBehind, AreBrought, IsWrittenBy}
use Rattle.st_ledger.specs.Sums.{is_parted}
use Rattle.st_ledger.specs.Waits.{charge_waits}
use Rattle.st_ledger.specs.Words.{read_of}
use Rattle.st_ledger.specs.declared.waits.Stall.{Stall}
use Rattle.st_ledger.specs.declared.waits.Stall.TheVariants.{Turn, Bank, Storage}
use Rattle.st_ledger.specs.declared.waits.Wait.{Wait}
use Rattle.st_lines.specs.declared.origins.Origin.{Origin}
use Rattle.st_lines.specs.BorderLines.{whole_state_lines, machine_lines}
use Rattle.st_tally.specs.Tally.{stage_ticks, wait_ticks}
use Rattle.st_tally.specs.TallyLines.{table_lines}
use Rattle.st_account.specs.LedgerRows.{ledger_rows}
use Rattle.st_account.specs.LedgerSums.{end_from, ledger_totals, ledger_sums}
use Rattle.st_account.specs.LedgerTables.{tallied_of, dropped_of}
use Rattle.st_account.specs.Text.{formed_at, totals_lines, wait_totals_lines, stalled_from, with_totals, ledger}
use Rattle.st_causes.specs.Heads.{is_spent_line, last_segment}
use Rattle.st_causes.specs.Runs.{ToldRow, told_of, line_of_row, lines_of_rows, because_at, facts_tallied, facts_told}
use Rattle.st_causes.specs.Summed.{all_summed}

-- ---- the text

-- The lines ROW, CHARGE, WAIT, LEVEL, BECAUSE, TICKS and SUM of a ledger are, in this order, those
-- of all its rows, one line with the total of all charges, and those of the sums.
abbrev pub LedgersTellWhereTicksWent : Type 0
LedgersTellWhereTicksWent = (o : Machine → ℕ → Option Origin) (ds : List ℕ) (n left : ℕ)
    (c : Scene) →
    let xs = all_charges ds n (entries_of ds n left c) in
    filter is_spent_line (ledger o ds n left c)
    ≡ lines_of_rows ds n (told_of ds n left c)
    ++ (ticks_line (all_ticks xs) ∷ (totals_lines xs
    ++ wait_totals_lines (λ r s. stalled_from r s ds n left [] (moment_at_start c))))

-- Two texts begin alike and end alike, and the first has other lines between.
pub record IsWithoutLines (whole part first : List (List ℕ)) : Type 0 where
  pub between : List (List ℕ)
  pub last : List (List ℕ)
  pub whole_is : whole ≡ first ++ between ++ last
  pub part_is : part ≡ first ++ last

-- The totals are the ledger without all lines between LEVELS or DELAYS and END: both begin with the
-- lines of the machine, and end alike. The tables of the run's rows follow the totals.
pub record TotalsAreTheLedgerWithoutRows : Type 0 where
  pub totals : (o : Machine → ℕ → Option Origin) (ds : List ℕ) (n left : ℕ) (c : Scene) →
      IsWithoutLines (ledger o ds n left c) (ledger_totals ds n left c) (machine_lines ds n)
  pub tables : (o : Machine → ℕ → Option Origin) (ds : List ℕ) (n left cards : ℕ) (c : Scene) →
      ledger_sums o ds n left cards c
      ≡ ledger_totals ds n left c
      ++ table_lines cards (tallied_of o ds n left c) (dropped_of ds n left c)

-- The rows of the tables are those of the run, in their order. Their charges and waits add up to
-- those of the SUM lines.
pub record TablesHaveTheRowsOfTheRun : Type 0 where
  pub rows : (o : Machine → ℕ → Option Origin) (ds : List ℕ) (n left : ℕ) (c : Scene) →
      map facts_tallied (tallied_of o ds n left c)
      ≡ map (facts_told o ds n) (told_of ds n left c)
  pub charges : (o : Machine → ℕ → Option Origin) (ds : List ℕ) (n left : ℕ) (c : Scene)
      (s : Stage) →
      stage_ticks s (tallied_of o ds n left c)
      ≡ ticks_for s (all_charges ds n (entries_of ds n left c))
  pub waits : (o : Machine → ℕ → Option Origin) (ds : List ℕ) (n left : ℕ) (c : Scene)
      (r : Stage) (s : Stall) →
      wait_ticks r s (tallied_of o ds n left c)
      ≡ stalled_from r s ds n left [] (moment_at_start c)

-- A part of a ledger from one row on, before which `skipped` rows complete. The whole ledger has
-- lines before and after the line of that row. The part begins with the state before that row and
-- the last line SEGMENT before it, and then both go on alike; only the part has no sums.
pub record IsFromRow (o : Machine → ℕ → Option Origin) (ds : List ℕ) (n left skipped : ℕ)
    (c : Scene) : Type 0 where
  pub first : List ToldRow
  pub row : ToldRow
  pub others : List ToldRow
  pub rows_are : told_of ds n left c ≡ first ++ (row ∷ others)
  pub skips : length first ≡ skipped
  pub before : List (List ℕ)
  pub after : List (List ℕ)
  pub whole_is : ledger o ds n left c
      ≡ with_totals ds n left c (before ++ (line_of_row ds n row ∷ after))
  pub part_is : ledger_rows o ds n left skipped c
      ≡ machine_lines ds n ++ (whole_state_lines row.standing.scene.machine
      ++ last_segment [] before ++ (line_of_row ds n row ∷ after))

-- A part of a ledger is either from one row on, or, if the run has no such row, it has only the
-- lines of the machine and of the end of the run.
pub record RowsAreAPartOfTheLedger : Type 0 where
  pub begun : (o : Machine → ℕ → Option Origin) (ds : List ℕ) (n left skipped : ℕ) (c : Scene) →
      skipped < length (told_of ds n left c) → IsFromRow o ds n left skipped c
  pub ended : (o : Machine → ℕ → Option Origin) (ds : List ℕ) (n left skipped : ℕ) (c : Scene) →
      length (told_of ds n left c) ≤ skipped →
      ledger_rows o ds n left skipped c
      ≡ machine_lines ds n ++ end_from ds n left (moment_at_start c)

-- Of the n + 1 entries after an issue state, at most n are prepared by the completion of its last
-- entry, if each takes at least one tick; so one of them has begun and is not yet prepared.
abbrev pub OneEntryIsBegun : Type 0
OneEntryIsBegun = (ds : List ℕ) (n : ℕ) (t : Option ℕ) (s : Machine) (f : IssueState) → 1 ≤ n → n ≤ 8 →
    All (λ (a : Ahead). 1 ≤ a.entry.cost) (ahead ds n (suc n) t s f) →
    length (first_late f.c (ahead ds n (suc n) t s f)) ≡ 1

-- ---- sums

-- The seven totals of stages, which the SUM lines contain, add up to the ticks of the run.
abbrev pub StageSumsAddUp : Type 0
StageSumsAddUp = (xs : List Charge) →
    all_summed (sums_by (λ s. ticks_for s xs) stages) ≡ all_ticks xs

-- For each stage with waits, the totals of its waits add up to the total of its charges.
abbrev pub WaitSumsAddUp : Type 0
WaitSumsAddUp = (ds : List ℕ) (n left : ℕ) (c : Scene) (s : Stage) →
    IsScene c →
    is_parted s ≡ true →
    stalled_from s Turn ds n left [] (moment_at_start c)
    + stalled_from s Bank ds n left [] (moment_at_start c)
    + stalled_from s Storage ds n left [] (moment_at_start c)
    ≡ ticks_for s (all_charges ds n (entries_of ds n left c))

-- ---- the words that rows use

-- The facts about the words that a row uses are true. Its reads are those of the timetable, in
-- their order and with their ticks. For a word that is held, a read of that word precedes it in its
-- segment, and the word has the answer of that read. A word that is forwarded comes from the row
-- that the line names, which writes it and completes at that tick. The bank of a read is busy up to
-- the answer of the previous read in it, or as long as it was at the start of the segment.
pub record UsesOfARunAreTrue : Type 0 where
  pub read : (ds : List ℕ) (n left : ℕ) (c : Scene) → IsScene c →
      All (λ (r : ToldRow). reads_told r.uses
      ≡ served ds (reads_of_entry ds n r.standing.issue (entry_of_moment r.standing))
      r.standing.issue.bus) (told_of ds n left c)
  pub held : (ds : List ℕ) (n left : ℕ) (c : Scene) → IsScene c →
      All (λ (r : ToldRow). AreBrought r.segment) (told_of ds n left c)
  pub banked : (ds : List ℕ) (n left : ℕ) (c : Scene) →
      All (λ (r : ToldRow). (banks : LastAnswers) × AreBankedBehind banks r.segment)
      (told_of ds n left c)
  pub forwarded : (ds : List ℕ) (n left : ℕ) (c : Scene) → IsScene c →
      All (λ (r : ToldRow). All (IsWrittenBy r.standing.issue.past) r.uses) (told_of ds n left c)

-- ---- waits

-- Each wait of a row is true at each of its ticks. In a TURN the named read is accepted; in a BANK
-- that read is wanted and first in turn, its bank is busy, and it is accepted at the end; in a
-- STORAGE the read is in progress. The reads are among those of the row's segment.
abbrev pub WaitsOfARunAreTrue : Type 0
WaitsOfARunAreTrue = (ds : List ℕ) (n left : ℕ) (c : Scene) →
    IsScene c →
    All (λ (r : ToldRow). All (λ (x : Charge). All (IsTrueOf r.segment)
    (charge_waits x r.uses r.before)) (charges_at ds n r.standing)) (told_of ds n left c)

-- The waits of a charge cover its ticks without a gap and without an overlap.
abbrev pub WaitsOfARunCoverTheirCharges : Type 0
WaitsOfARunCoverTheirCharges = (ds : List ℕ) (n left : ℕ) (c : Scene) →
    IsScene c →
    All (λ (r : ToldRow). All (λ (x : Charge). is_parted x.stage ≡ true → FallTo x.from x.to
    (charge_waits x r.uses r.before)) (charges_at ds n r.standing)) (told_of ds n left c)

-- Each read that a wait names was accepted before its row completes, so its line has MADE 1.
abbrev pub NamedReadsAreMade : Type 0
NamedReadsAreMade = (ds : List ℕ) (n left : ℕ) (c : Scene) →
    IsScene c →
    All (λ (r : ToldRow). All (λ (x : Charge). All (λ (w : Wait). (t : ℕ) (u : Use) →
    w.from ≤ t → t < w.to → is_cause w.why w.read w.to t u ≡ true →
    (read_of u.supply).accept < (next_row ds n r.standing).c)
    (charge_waits x r.uses r.before)) (charges_at ds n r.standing)) (told_of ds n left c)

-- ---- reasons

-- The ledger has a BECAUSE line for a row if and only if the row has charges other than EXECUTING.
abbrev pub ReasonsStandWhereTicksAreLost : Type 0
ReasonsStandWhereTicksAreLost = (ds : List ℕ) (n left : ℕ) (c : Scene) →
    All (λ (r : ToldRow). nat_lt r.standing.tick (next_row ds n r.standing).r
    ≡ nat_lt (ticks_for Executing (charges_at ds n r.standing))
    (all_ticks (charges_at ds n r.standing))) (told_of ds n left c)

-- The cause that a BECAUSE line names did delay the row: a level, a row that wrote its index-side
-- word, or the end of the path that leads back from its address, with its row, its tick, and the
-- number of ticks that the row was later for it. If several causes came at that tick, it is the
-- first in the order of the page.
abbrev pub ReasonsOfARunAreTrue : Type 0
ReasonsOfARunAreTrue = (ds : List ℕ) (n left : ℕ) (c : Scene) →
    IsScene c → 1 ≤ n → n ≤ 8 →
    All (λ (r : ToldRow). IsReason ds n r.standing.issue (entry_of_moment r.standing)
    (formed_at ds r.standing) r.before (because_at ds n r.before r.standing)) (told_of ds n left c)
