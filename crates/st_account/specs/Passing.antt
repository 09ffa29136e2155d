-- The lines of the ledger that are written in a run of which the first rows may be skipped. The
-- first argument of each definition counts the rows up to the first one that is written, 0 from
-- that row on. As in LedgerRows, `start` is the line of the start of the last entry's segment.
--
-- Proved: by their `ensures` clauses these calls do what definitions here say: `pass_to_next`
-- (passing.rt), `finish` (account.rt), `write_to_next` (account.rt), `finish_run` (passing.rt), and
-- others.
-- Laws: none names a definition of this file itself.
-- Change: no page fixes these definitions, since no contract of a program unfolds to them; they
-- change together with the clauses, definitions and laws that name them. docs/ledger.md describes
-- the subject.
use Rattle.std.specs.Prelude.{ℕ, zero, suc, if◌then◌else◌, List, [], ◌∷◌, ◌++◌, Option}
use Rattle.st_state.specs.Machine.{Machine}
use Rattle.st_run.specs.Moments.{Moment, next_state}
use Rattle.st_rows.specs.declared.uses.Use.{Use}
use Rattle.st_lines.specs.Lines.{start_line}
use Rattle.st_lines.specs.BorderLines.{whole_state_lines}
use Rattle.st_lines.specs.Origins.{origin_at}
use Rattle.st_lines.specs.declared.origins.Origin.{Origin}
use Rattle.st_lines.specs.declared.writing.Border.{Border}
use Rattle.st_account.specs.declared.account.Account.{Account}
use Rattle.st_account.specs.LedgerRows.{start_after, rows_from}
use Rattle.st_account.specs.LedgerSums.{end_lines}
use Rattle.st_account.specs.Standing.{Position, kept_lines}
use Rattle.st_account.specs.Text.{segment_end_at, segment_lines, last_lines, lines_from}

-- the lines of a run from a moment on
unfoldable pub lines_until : ℕ → (Machine → ℕ → Option Origin) → List ℕ → ℕ → ℕ → ℕ → Machine →
    List Use → List (List ℕ) → Moment → List (List ℕ)
lines_until zero o ds n left k b us start m = lines_from o ds n left k b us m
lines_until (suc skipped) o ds n left k b us start m = rows_from o ds n left skipped k us start m

-- the lines between the last entry and the next one, with those of the last entry
abbrev pub lines_to_next : Position → Account → List (List ℕ)
lines_to_next p a =
    kept_lines a.k a.last (segment_end_at p.left p.moment)
    ++ segment_lines (origin_at a.origins) p.delays p.levels a.k p.before p.moment

-- the lines of the end of the run, with those of the last entry
abbrev pub lines_to_end : Position → Account → List (List ℕ)
lines_to_end p a =
    kept_lines a.k a.last (segment_end_at p.left p.moment)
    ++ last_lines (origin_at a.origins) p.delays p.levels a.k p.before p.moment

-- those lines between two entries that are written
unfoldable pub passed_lines : ℕ → Position → Account → List (List ℕ) → List (List ℕ)
passed_lines zero p a start = lines_to_next p a
passed_lines (suc zero) p a start =
    whole_state_lines (next_state p.moment) ++ start_after a.k start p.moment
passed_lines (suc (suc more)) p a start = []

-- those lines of the end of the run that are written
unfoldable pub ended_lines : ℕ → Position → Account → List (List ℕ)
ended_lines zero p a = lines_to_end p a
ended_lines (suc skipped) p a = end_lines p.moment

-- the line of the start of segment k, from the border at which it begins; none before segment 1
abbrev pub line_of_start : ℕ → Border → List (List ℕ)
line_of_start k border =
    if border.begins then start_line k border.start border.waited border.why ∷ [] else []
