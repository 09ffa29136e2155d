-- Marks of the words that have been written.
--
-- Proved: by their `ensures` clauses these calls do what definitions here say: `step` (hazards.rt),
-- `has_mark` (written.rt), `has_side` (written.rt), `has_words` (written.rt), and others.
-- Laws: none names a definition of this file itself.
-- Change: no page fixes these definitions, since no contract of a program unfolds to them; they
-- change together with the clauses, definitions and laws that name them. docs/timetable.md
-- describes the subject.
use Rattle.std.specs.Prelude.{ℕ, ◌≡◌, zero, suc, ◌+◌, Bool, true, false, List, get_or, set}
use Rattle.st_rows.specs.declared.entry.WordRuns.{WordRuns}
use Rattle.st_sweep.specs.HazardFree.{is_among_written}

-- a word is marked if and only if one of the entries writes it
pub record AreMarks (earlier : List WordRuns) (marks : List Bool) : Type 0 where
  pub each : (w : ℕ) → get_or marks w false ≡ is_among_written earlier w

-- the marks with the n words from the word w marked
unfoldable pub marks_with : List Bool → ℕ → ℕ → List Bool
marks_with marks w zero = marks
marks_with marks w (suc n) = marks_with (set marks w true) (w + 1) n
