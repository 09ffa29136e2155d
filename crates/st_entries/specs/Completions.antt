-- The completions of the rows in a report, in order.
--
-- Proved: no `ensures` clause names a definition of this file.
-- Laws: OneExecutesAtATick (specs/Laws.antt).
-- Change: no page fixes these definitions, since no contract of a program unfolds to them; they
-- change together with the clauses, definitions and laws that name them. docs/chart.md describes
-- the subject.
use Rattle.std.specs.Prelude.{ℕ, ◌≤◌, List, [], ◌∷◌, ⊤, Option, None, Some}
use Rattle.st_entries.specs.Report.{item}
use Rattle.st_entries.specs.declared.report.TimetableLine.{TimetableLine}
use Rattle.st_entries.specs.declared.report.TimetableLine.TheVariants.{Row, Drop, Interrupt, Snapshot}

-- the completion of the last row after one more line, given the one before it and the contents of
-- the line
abbrev pub completion_after : ℕ → Option TimetableLine → ℕ
completion_after before None = before
completion_after before (Some (Row n a p r c)) = c
completion_after before (Some (Drop a p)) = before
completion_after before (Some (Interrupt i)) = before
completion_after before (Some (Snapshot t)) = before

-- no row in these lines completes before the row above it, and the first row does not complete
-- before this tick
abbrev pub CompletionsRise : ℕ → List (List ℕ) → Type 0
CompletionsRise before [] = ⊤
CompletionsRise before (line ∷ lines) =
    let after = completion_after before (item line) in (before ≤ after)
    × CompletionsRise after lines
