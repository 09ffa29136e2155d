-- The totals of a run: of its ledger the lines of the machine, of the end of the run, and of the
-- sums, and after them the tables. The machine has the delays ds and n levels.
--
-- Proved: by their `ensures` clauses these calls do what definitions here say: `write_tallied`
-- (program.rt), `add_run` (running.rt), `write_ledger_sums` (running.rt), `write_ledger_totals`
-- (running.rt).
-- Read by: definitions in Answers, LedgerRows, Passing.
-- Laws: TotalsAreTheLedgerWithoutRows (specs/Laws.antt of st_causes), RowsAreAPartOfTheLedger
-- (specs/Laws.antt of st_causes).
-- Change: the meaning is fixed by docs/ledger.md, since the contract of `st_account::ledger`
-- unfolds to a definition here. The form is free, with the proofs that unfold it.
use Rattle.std.specs.Prelude.{ℕ, zero, suc, if◌then◌else◌, List, [], ◌∷◌, ◌++◌, Option}
use Rattle.st_exec.specs.Step.{rests}
use Rattle.st_state.specs.Machine.{Machine}
use Rattle.st_report.specs.Line.{end_line, done_line, ticks_line}
use Rattle.st_run.specs.Moments.{Moment, moment_at_start, next_moment, next_state, standing_at}
use Rattle.st_run.specs.Run.{Scene}
use Rattle.st_lines.specs.declared.origins.Origin.{Origin}
use Rattle.st_tally.specs.TallyLines.{table_lines}
use Rattle.st_account.specs.LedgerTables.{tallied_of, dropped_of}
use Rattle.st_account.specs.Text.{with_totals}

-- the lines of the end of a run that ends at a moment
abbrev pub end_lines : Moment → List (List ℕ)
end_lines m =
    end_line (rests (next_state m)) ∷ done_line (next_state m).done ∷ ticks_line m.tick ∷ []

-- the lines of the end of a run, from a moment on with a remaining budget
unfoldable pub end_from : List ℕ → ℕ → ℕ → Moment → List (List ℕ)
end_from ds n zero m = end_lines m
end_from ds n (suc left) m =
    if rests (next_state m) then end_lines m
    else end_from ds n left (next_moment ds n (standing_at m))

-- the totals of the run of a scene without the tables
unfoldable pub ledger_totals : List ℕ → ℕ → ℕ → Scene → List (List ℕ)
ledger_totals ds n left c = with_totals ds n left c (end_from ds n left (moment_at_start c))

-- the totals of the run of a scene, with tables for the cards below the listed number. The function
-- `o` gives the card that a half-word of a state comes from
unfoldable pub ledger_sums : (Machine → ℕ → Option Origin) → List ℕ → ℕ → ℕ → ℕ → Scene →
    List (List ℕ)
ledger_sums o ds n left cards c =
    ledger_totals ds n left c
    ++ table_lines cards (tallied_of o ds n left c) (dropped_of ds n left c)
