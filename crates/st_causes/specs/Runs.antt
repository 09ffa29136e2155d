-- The rows of a run as the ledger accounts for their ticks. The machine has the delays ds and n
-- levels.
--
-- Proved: no `ensures` clause names a definition of this file.
-- Laws: ReasonsOfARunAreTrue (specs/Laws.antt), TablesHaveTheRowsOfTheRun (specs/Laws.antt),
-- LedgersTellWhereTicksWent (specs/Laws.antt), NamedReadsAreMade (specs/Laws.antt), and others.
-- Change: no page fixes these definitions, since no contract of a program unfolds to them; they
-- change together with the clauses, definitions and laws that name them. docs/ledger.md describes
-- the subject.
use Rattle.std.specs.Prelude.{ℕ, zero, suc, ◌+◌, if◌then◌else◌, List, [], ◌∷◌, ◌++◌, reverse, Option, None}
use Rattle.st_state.specs.Machine.{Machine}
use Rattle.st_exec.specs.Step.{rests, address}
use Rattle.st_run.specs.Run.{Scene}
use Rattle.st_run.specs.Moments.{Moment, Standing, moment_at_start, next_state, standing_at, next_row, next_moment, entry_of_moment}
use Rattle.st_ledger.specs.Ledger.{charges_at}
use Rattle.st_ledger.specs.Lines.{row_stage_line}
use Rattle.st_plain.specs.Looking.{level_wait}
use Rattle.st_rows.specs.declared.uses.Use.{Use}
use Rattle.st_ledger.specs.Reasons.{because}
use Rattle.st_ledger.specs.declared.because.StallCause.{StallCause}
use Rattle.st_lines.specs.EntryLines.{level_lines}
use Rattle.st_lines.specs.WaitLines.{charged_lines, because_lines}
use Rattle.st_lines.specs.declared.facts.EntryDone.{EntryDone}
use Rattle.st_lines.specs.declared.origins.Origin.{Origin}
use Rattle.st_tally.specs.Tally.{TalliedRow}
use Rattle.st_account.specs.Text.{formed_at, uses_at, words_before, done_at}

-- a row: the state of the run before it, the words that it uses, the words of the previous row in
-- its segment, and the words of all rows of the segment up to and including it, youngest first
pub record ToldRow : Type 0 where
  pub standing : Standing
  pub uses : List Use
  pub before : List Use
  pub segment : List Use

-- the rows from a moment on with a remaining budget, given the words that the previous entry and
-- its segment so far have used
unfoldable pub told_from : List ℕ → ℕ → ℕ → List Use → List Use → Moment → List ToldRow
told_from ds n zero us segment m = []
told_from ds n (suc left) us segment m =
    let p = standing_at m in
    let all = reverse (uses_at ds n p) ++ words_before m segment in
    if rests (next_state m) then []
    else record { standing = p; uses = uses_at ds n p; before = words_before m us; segment = all }
    ∷ told_from ds n left (uses_at ds n p) all (next_moment ds n p)

-- all rows of the run of a scene
abbrev pub told_of : List ℕ → ℕ → ℕ → Scene → List ToldRow
told_of ds n left c = told_from ds n left [] [] (moment_at_start c)

-- ---- the facts about a row

-- the number of ticks for which the next row waits for a level
abbrev pub wait_at : List ℕ → ℕ → Standing → ℕ
wait_at ds n p = level_wait ds n p.issue (entry_of_moment p)

-- the cause that delays the next row, given the words that the previous row uses
abbrev pub because_at : List ℕ → ℕ → List Use → Standing → StallCause
because_at ds n before p = because p.issue (entry_of_moment p) (next_row ds n p).a
    (next_row ds n p).p (wait_at ds n p) (formed_at ds p) before

-- the line ROW of a row
abbrev pub line_of_row : List ℕ → ℕ → ToldRow → List ℕ
line_of_row ds n r =
    let s = r.standing.scene.machine in
    row_stage_line (s.done + 1) (address s) (next_row ds n r.standing)

-- the lines that account for the ticks of a row: the row, each charge followed by its waits, its
-- wait for a level, and the cause that delayed it
unfoldable pub lines_of_row : List ℕ → ℕ → ToldRow → List (List ℕ)
lines_of_row ds n r =
    let p = r.standing in
    let s = p.scene.machine in
    let row = next_row ds n p in
    row_stage_line (s.done + 1) (address s) row
    ∷ (charged_lines r.uses r.before (charges_at ds n p)
    ++ (level_lines (wait_at ds n p)
    ++ because_lines (s.done + 1) p.tick row.r (because_at ds n r.before p)))

-- the lines that account for the ticks of several rows
unfoldable pub lines_of_rows : List ℕ → ℕ → List ToldRow → List (List ℕ)
lines_of_rows ds n [] = []
lines_of_rows ds n (r ∷ rs) = lines_of_row ds n r ++ lines_of_rows ds n rs

-- ---- the rows of the tables

-- the facts about a row that do not depend on its segment: the completed entry, with no end of its
-- segment, the words that it uses, and those of the row before it in its segment
pub record RowFacts : Type 0 where
  pub done : EntryDone
  pub uses : List Use
  pub before : List Use

-- those of a row of the tables
abbrev pub facts_tallied : TalliedRow → RowFacts
facts_tallied x =
    record { done = record x.done { end = None }; uses = x.uses; before = x.before }

-- those of a row of a run; the function `o` gives the card that a half-word of a state comes from
abbrev pub facts_told : (Machine → ℕ → Option Origin) → List ℕ → ℕ → ToldRow → RowFacts
facts_told o ds n r = record {
  done = done_at o ds n None r.before r.standing;
  uses = r.uses;
  before = r.before;
}
