-- Parts of the view of the levels of a machine.
--
-- Proved: by their `ensures` clauses these calls do what definitions here say: `count` (lib.rt),
-- `level_line` (lib.rt), `snap_line` (lib.rt), `first_level` (telling.rt of st_telling), and
-- others.
-- Read by: definitions in Running of st_telling.
-- Laws: none names a definition of this file itself.
-- Change: no page fixes these definitions, since no contract of a program unfolds to them; they
-- change together with the clauses, definitions and laws that name them. docs/report.md describes
-- the subject.
use Rattle.std.specs.Prelude.{ℕ, zero, suc, List, [], ◌∷◌, Option, None, Some, option_map}
use Rattle.st_ahead.specs.declared.events.LevelView.{LevelView}

-- the number of levels before the first empty place
unfoldable pub levels_standing : List (Option LevelView) → ℕ
levels_standing [] = zero
levels_standing (None ∷ more) = zero
levels_standing (Some level ∷ more) = suc (levels_standing more)

-- the number and the previous contents of the index word that a level changed speculatively, if it
-- changed one
abbrev pub change_shown : LevelView → Option (ℕ × ℕ)
change_shown level = option_map (λ number. (number, level.kept)) level.index
