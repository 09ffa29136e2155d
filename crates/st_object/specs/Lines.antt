-- The lines of an object text, and their bytes.
--
-- Proved: by their `ensures` clauses these calls do what definitions here say: `push_program`
-- (writing.rt), `push_words` (writing.rt), `spelled` (spelling.rt), `push_filled` (writing.rt), and
-- others.
-- Read by: definitions in Object, DelayLines, Draft, Meaning, and others.
-- Laws: LinesAreReadBack (specs/Laws.antt).
-- Change: the meaning is fixed by docs/object-text.md, since the contract of `st_top::stretch`
-- unfolds to a definition here. The form is free, with the proofs that unfold it.
use Rattle.std.specs.Prelude.{ℕ, ◌+◌, ◌==◌, List, [], ◌∷◌, ◌++◌, codes, decimal, if◌then◌else◌}
use Rattle.std.specs.List.{flat_map}
use Rattle.st_text.specs.Bytes.{lf}
use Rattle.st_text.specs.Numerals.{hex_word, half_address}
use Rattle.st_card.specs.Written.{control_line}
use Rattle.st_card.specs.declared.keywords.ControlForm.TheVariants.{ObjectLine}
use Rattle.st_object.specs.declared.items.Item.{Item}
use Rattle.st_object.specs.declared.items.Item.TheVariants.{Object, Start, Word, Fin, Ask}

-- the only spelling of an item as a line
unfoldable pub line_text : Item → List ℕ
line_text Object = codes "OBJECT"
line_text (Start h) = codes "START " ++ half_address h
line_text (Word w x) = codes "W " ++ decimal w ++ codes " " ++ hex_word x
line_text (Ask asked) = control_line ObjectLine asked
line_text Fin = codes "FIN"

-- the text of lines, each with its line end
abbrev pub object_text_of : List Item → List ℕ
object_text_of items = flat_map (λ i. line_text i ++ lf) items

-- the lines of the words from word w on that are not zero, in order of address
abbrev pub word_lines : ℕ → List ℕ → List Item
word_lines w [] = []
word_lines w (x ∷ xs) = if x == 0 then word_lines (w + 1) xs else Word w x ∷ word_lines (w + 1) xs
