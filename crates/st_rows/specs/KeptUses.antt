-- A list of words with room for 48, which ignores words that are appended when it is full.
--
-- Proved: by their `ensures` clauses these calls do what definitions here say: `push` (uses.rt).
-- Laws: none names a definition of this file itself.
-- Change: no page fixes these definitions, since no contract of a program unfolds to them; they
-- change together with the clauses, definitions and laws that name them. docs/timetable.md
-- describes the subject.
use Rattle.std.specs.Prelude.{◌≡◌, refl, List, [], ◌∷◌, ◌++◌, take}
use Rattle.arrayvec.specs.ArrayVec.{ArrayVec}
use Rattle.st_rows.specs.declared.uses.Use.{Use}

-- the list after these words are appended
unfoldable pub uses_with : List Use → ArrayVec Use → ArrayVec Use
uses_with [] kept = kept
uses_with (u ∷ us) kept = uses_with us (record { items = take 48 (kept.items ++ u ∷ []) })

pub uses_with_none : (kept : ArrayVec Use) → uses_with [] kept ≡ kept
unfolding uses_with
uses_with_none kept = refl

pub uses_with_more : (a b : List Use) (kept : ArrayVec Use) →
    uses_with b (uses_with a kept) ≡ uses_with (a ++ b) kept
unfolding uses_with
uses_with_more [] b kept = refl
uses_with_more (u ∷ a) b kept =
    uses_with_more a b (record { items = take 48 (kept.items ++ u ∷ []) })
