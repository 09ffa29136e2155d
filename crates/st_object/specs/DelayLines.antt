-- The lines of delays in an object text, and its other lines.
--
-- Proved: no `ensures` clause names a definition of this file.
-- Read by: definitions in Delays of st_top, Marks of st_top.
-- Laws: ObjectTextsThatDifferInDelaysAlone (specs/DelayLaws.antt of st_top).
-- Change: the meaning is fixed by docs/object-text.md, since the contract of `st_top::stretch`
-- unfolds to a definition here. The form is free, with the proofs that unfold it.
use Rattle.std.specs.Prelude.{◌≡◌, ℕ, ◌≤◌, Bool, not, if◌then◌else◌, List, [], ◌∷◌, ◌++◌, length, map, take, filter, codes}
use Rattle.st_text.specs.Bytes.{line_end}
use Rattle.st_text.specs.Pieces.{pieces_of}
use Rattle.st_text.specs.Tables.{is_same}
use Rattle.st_card.specs.Limits.{AreDelays}
use Rattle.st_object.specs.Lines.{line_text}
use Rattle.st_card.specs.declared.keywords.Number.TheVariants.{Delays}
use Rattle.st_card.specs.declared.keywords.Control.TheVariants.{Number}
use Rattle.st_object.specs.declared.items.Item.TheVariants.{Ask}

-- whether a line of an object text is a delay line
unfoldable pub is_delay_line : List ℕ → Bool
is_delay_line line = is_same (take 6 line) (codes "DELAY ")

-- whether a line of an object text is the budget line
unfoldable pub is_budget_line : List ℕ → Bool
is_budget_line line = is_same (take 7 line) (codes "BUDGET ")

-- the pieces of a text between its line ends, except delay lines
abbrev pub other_lines : List ℕ → List (List ℕ)
other_lines text = filter (λ line. not (is_delay_line line)) (pieces_of line_end text)

-- lines with the lines of these delays inserted after the budget line
abbrev pub with_delay_lines : List ℕ → List (List ℕ) → List (List ℕ)
with_delay_lines delays [] = []
with_delay_lines delays (line ∷ lines) =
    if is_budget_line line then line ∷ map (λ d. line_text (Ask (Number Delays d))) delays ++ lines
    else line ∷ with_delay_lines delays lines

-- two object texts have equal lines in the same order, apart from delay lines
abbrev pub DifferInDelayLines : List ℕ → List ℕ → Type 0
DifferInDelayLines text other = other_lines text ≡ other_lines other

-- the delay lines of a text are those of these delays, directly after the budget line; there are 1
-- to 4,096 of them, each from 1 to 255 ticks
pub record HasDelayLines (text delays : List ℕ) : Type 0 where
  pub some : 1 ≤ length delays
  pub limits : AreDelays delays
  pub lines : pieces_of line_end text ≡ with_delay_lines delays (other_lines text)
