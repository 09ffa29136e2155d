-- The planned row of an entry.
--
-- Proved: by their `ensures` clauses these calls do what definitions here say: `push` (levels.rt),
-- `plan_into` (plans.rt), `push` (plans.rt).
-- Laws: none names a definition of this file itself.
-- Change: no page fixes these definitions, since no contract of a program unfolds to them; they
-- change together with the clauses, definitions and laws that name them. docs/inside.md describes
-- the subject.
use Rattle.st_rows.specs.declared.issue.Filled.{Filled}
use Rattle.st_rows.specs.declared.issue.IssueState.{IssueState}
use Rattle.st_ring.specs.declared.plans.PlannedRow.{PlannedRow}

-- the planned row of an entry that is issued from f, with the ticks `filled`
abbrev pub planned_row : IssueState → Filled → PlannedRow
planned_row f filled = record {
  issue = record { marker = record {}; value = f };
  r = filled.row.r;
  c = filled.row.c;
  fills = filled.fills;
}
