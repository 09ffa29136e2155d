-- The first word of a line, and the lines that account for ticks.
--
-- Proved: no `ensures` clause names a definition of this file.
-- Laws: LedgersTellWhereTicksWent (specs/Laws.antt).
-- Change: no page fixes these definitions, since no contract of a program unfolds to them; they
-- change together with the clauses, definitions and laws that name them. docs/ledger.md describes
-- the subject.
use Rattle.std.specs.Prelude.{ℕ, Bool, true, false, ◌&&◌, ◌||◌, nat_eq, if◌then◌else◌, List, [], ◌∷◌, codes}
use Rattle.std.specs.List.{list_any}

-- the text before the first blank or line end
unfoldable pub head_of : List ℕ → List ℕ
head_of [] = []
head_of (b ∷ bs) = if nat_eq b 32 || nat_eq b 10 then [] else b ∷ head_of bs

-- whether two words are equal
unfoldable pub is_word : List ℕ → List ℕ → Bool
is_word [] [] = true
is_word [] (b ∷ bs) = false
is_word (a ∷ rest) [] = false
is_word (a ∷ rest) (b ∷ bs) = nat_eq a b && is_word rest bs

-- the first words of the lines that account for the ticks of rows, and of their sums
abbrev pub spent_words : List (List ℕ)
spent_words = codes "ROW" ∷ codes "CHARGE" ∷ codes "WAIT" ∷ codes "LEVEL" ∷ codes "BECAUSE"
    ∷ codes "TICKS" ∷ codes "SUM" ∷ []

-- whether a line begins with one of the words that account for ticks
unfoldable pub is_spent_line : List ℕ → Bool
is_spent_line line = list_any (is_word (head_of line)) spent_words

-- whether a line begins with the word SEGMENT
unfoldable pub is_segment_line : List ℕ → Bool
is_segment_line line = is_word (head_of line) (codes "SEGMENT")

-- the last line SEGMENT of some lines, as a list; `last` if there is none
unfoldable pub last_segment : List (List ℕ) → List (List ℕ) → List (List ℕ)
last_segment last [] = last
last_segment last (line ∷ lines) =
    last_segment (if is_segment_line line then line ∷ [] else last) lines
