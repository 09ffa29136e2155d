-- The index words after the speculative changes of levels, and how these changes are undone.
--
-- Proved: by their `ensures` clauses these calls do what definitions here say: `undo_into`
-- (ring.rt), `put_back` (ring.rt).
-- Laws: LevelsAreLent (specs/Laws.antt of st_refine).
-- Change: no page fixes these definitions, since no contract of a program unfolds to them; they
-- change together with the clauses, definitions and laws that name them. docs/inside.md describes
-- the subject.
use Rattle.std.specs.Prelude.{IfSome, ◌≡◌, ℕ, List, [], ◌∷◌, slice_index, slice_set, Option, None, Some}
use Rattle.st_prep.specs.SpeculativeChanges.{words_after}
use Rattle.st_prep.specs.declared.entries.IndexChange.{IndexChange}
use Rattle.st_ring.specs.declared.level.Level.{Level}

-- the index words after the speculative changes of the levels, in order
unfoldable pub index_words_after : List ℕ → List Level → List ℕ
index_words_after x [] = x
index_words_after x (level ∷ levels) = index_words_after (words_after x level.prepared.index) levels

-- a change records the word that it replaces
abbrev pub ChangeKeeps : List ℕ → Option IndexChange → Type 0
ChangeKeeps x change = IfSome change (λ c. slice_index x c.number ≡ c.kept)

-- each level records the word that it replaces in the index words after the levels before it
unfoldable pub Kept : List ℕ → List Level → Type 0
Kept x [] = Unit {0}
Kept x (level ∷ levels) = ChangeKeeps x level.prepared.index
    × Kept (words_after x level.prepared.index) levels

-- restores the word that a change replaced
abbrev pub put_back : List ℕ → Option IndexChange → List ℕ
put_back x None = x
put_back x (Some c) = slice_set x c.number c.kept

-- restores the words that the levels replaced, the youngest level first
unfoldable pub unwound : List ℕ → List Level → List ℕ
unwound x [] = x
unwound x (level ∷ levels) = put_back (unwound x levels) level.prepared.index
