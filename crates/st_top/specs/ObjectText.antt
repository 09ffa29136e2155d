-- The object text of a job and the deck of a program, line by line.
--
-- Proved: by their `ensures` clauses these calls do what definitions here say: `answer_object`
-- (objects.rt), `answer_text` (objects.rt), `image_of` (objects.rt), `write_ended` (objects.rt).
-- Read by: definitions in Output, Marks.
-- Laws: LinesAreTheDeck (specs/Laws.antt), LinesAreTheObjectText (specs/Laws.antt).
-- Change: the meaning is fixed by docs/running.md, since the contract of `st_top::stretch` unfolds
-- to a definition here. The form is free, with the proofs that unfold it.
use Rattle.std.specs.Prelude.{ℕ, false, List, [], ◌∷◌, ◌++◌, map}
use Rattle.st_asm.specs.Assembly.{Assembly}
use Rattle.st_object.specs.Lines.{line_text}
use Rattle.st_object.specs.Object.{Program, object_lines as lines_of}
use Rattle.st_dis.specs.Deck.{deck_cards}
use Rattle.st_text.specs.Bytes.{lf}

-- the part of an assembled job that its object text keeps: all but whether it is listed
abbrev pub program_in : Assembly → Program
program_in a =
    record { words = a.image; start = a.start; controls = record a.asked { list = false } }

-- the lines of the object text of a program, each with its line end
unfoldable pub object_text_lines : Program → List (List ℕ)
object_text_lines p = map (λ item. line_text item ++ lf) (lines_of p)

-- the lines of a text that have a line end, including the line end, given its pieces
abbrev pub whole_lines : List (List ℕ) → List (List ℕ)
whole_lines [] = []
whole_lines (rest ∷ []) = []
whole_lines (line ∷ next ∷ more) = (line ++ lf) ∷ whole_lines (next ∷ more)

-- the cards of the deck of a program, each with its line end
unfoldable pub deck_lines : Program → List (List ℕ)
deck_lines p = map (λ card. card ++ lf) (deck_cards p)
