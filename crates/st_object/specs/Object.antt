-- Object texts, the programs that they contain, and the first bad line of any other text.
--
-- Proved: by their `ensures` clauses these calls do what definitions here say: `read_object`
-- (reading.rt), `push_object` (writing.rt), `write_object` (writing.rt), `add_line` (reading.rt),
-- and others.
-- Read by: definitions in Answers, Answers of st_top, Delays of st_top, Layers of st_top, and
-- others.
-- Laws: AcceptedTextsAreWritten (specs/Laws.antt), WrittenTextsAreReadBack (specs/Laws.antt),
-- TextsAreReadAsOne (specs/Laws.antt), RefusedTextsHaveABadLine (specs/Laws.antt), and others.
-- Change: the meaning is fixed by docs/object-text.md, since the contract of `st_top::stretch`
-- unfolds to a definition here. The form is free, with the proofs that unfold it.
use Rattle.std.specs.Prelude.{ℕ, ◌≡◌, ◌≤◌, ◌<◌, ◌+◌, ◌-◌, ◌^◌, false, List, [], ◌∷◌, ◌++◌, length, map, take, replicate, Option, is_some, unwrap_or, Result, Ok, Err, if◌then◌else◌}
use Rattle.std.specs.List.{All}
use Rattle.std.specs.Option.{option_and_then, option_map_or}
use Rattle.st_text.specs.Bytes.{line_end}
use Rattle.st_bits.specs.Storage.{IsImage, words_of_storage}
use Rattle.st_card.specs.Controls.{Asked}
use Rattle.st_card.specs.Limits.{IsWithinLimits}
use Rattle.st_text.specs.Pieces.{pieces_of}
use Rattle.st_card.specs.Written.{text_of_lines, requests}
use Rattle.st_object.specs.Lines.{object_text_of, word_lines}
use Rattle.st_object.specs.Draft.{Draft, draft_at_start, is_empty, is_whole, with_item}
use Rattle.st_object.specs.Meaning.{item_in}
use Rattle.st_object.specs.declared.items.Item.{Item}
use Rattle.st_object.specs.declared.items.Item.TheVariants.{Object, Start, Fin, Ask}

-- a program: the words of storage, the start, and the requests
pub record Program : Type 0 where
  pub words : List ℕ
  pub start : ℕ
  pub controls : Asked

-- a program that an object text can contain
pub record IsProgram (p : Program) : Type 0 where
  pub image : IsImage p.words
  pub start : p.start < 2 ^ 19
  pub limits : IsWithinLimits p.controls
  pub budget : 1 ≤ p.controls.budget
  pub delays : 1 ≤ length p.controls.delays
  pub unlisted : p.controls.list ≡ false

-- each word has 64 bits
abbrev pub AreWords : List ℕ → Type 0
AreWords words = All (λ x. x < 2 ^ 64) words

-- the lines of a program
abbrev pub object_lines : Program → List Item
object_lines p = Object ∷ Start p.start ∷ [] ++ word_lines 0 p.words
    ++ map (λ control. Ask control) (requests p.controls) ++ Fin ∷ []

-- the object text of a program
abbrev pub object_text : Program → List ℕ
object_text p = object_text_of (object_lines p)

-- words padded with zeros up to the end of storage
abbrev pub filled_up : List ℕ → List ℕ
filled_up words = words ++ replicate (words_of_storage - length words) 0

-- the program that a draft describes
abbrev pub program_of : Draft → Program
program_of d = record { words = filled_up d.words; start = unwrap_or d.start 0; controls = d.asked }

-- the draft with a further line, if that line may come next
abbrev pub draft_with_line : Draft → List ℕ → Option Draft
draft_with_line d line = option_and_then (λ item. with_item d item) (item_in line)

-- the reading of a text that ends here; n is the number after that of its last line
abbrev pub program_at_end : Draft → ℕ → Result Program ℕ
program_at_end d n = if is_whole d then Ok (program_of d) else Err n

-- the reading of a text whose n-th line has no line end: the text ends too early, unless that line
-- itself is bad
abbrev pub program_cut : Draft → ℕ → List ℕ → Result Program ℕ
program_cut d n line = if is_some (draft_with_line d line) then Err (n + 1) else Err n

-- the reading of a text, given the text after its last line end
abbrev pub program_behind : Draft → ℕ → List ℕ → Result Program ℕ
program_behind d n rest = if is_empty rest then program_at_end d n else program_cut d n rest

-- the reading of the pieces of a text between its line ends, from the n-th on: the program, or the
-- number of the bad line
abbrev pub read_from : Draft → ℕ → List (List ℕ) → Result Program ℕ
read_from d n [] = Err n
read_from d n (rest ∷ []) = program_behind d n rest
read_from d n (line ∷ next ∷ more) =
    option_map_or (λ e. read_from e (n + 1) (next ∷ more)) (draft_with_line d line) (Err n)

-- the reading of a text: the program that it contains, or the number of its bad line
unfoldable pub read_text : List ℕ → Result Program ℕ
read_text text = read_from draft_at_start 1 (pieces_of line_end text)

-- the lines of the pieces between line ends: the piece after the last line end is a line too if it
-- is not empty
abbrev pub lines_in : List (List ℕ) → List (List ℕ)
lines_in [] = []
lines_in (rest ∷ []) = if is_empty rest then [] else rest ∷ []
lines_in (line ∷ next ∷ more) = line ∷ lines_in (next ∷ more)

-- the lines of a text
abbrev pub text_lines : List ℕ → List (List ℕ)
text_lines text = lines_in (pieces_of line_end text)

-- the first n lines of a text, each with its line end
abbrev pub first_lines : ℕ → List ℕ → List ℕ
first_lines n text = text_of_lines (take n (text_lines text))

-- a text with which some object text begins
abbrev pub BeginsObjectText : List ℕ → Type 0
BeginsObjectText front = (p : Program) × IsProgram p × AreWords p.words
    × (rest : List ℕ) × (object_text p ≡ front ++ rest)

-- a text that is the object text of some program
abbrev pub IsObjectText : List ℕ → Type 0
IsObjectText text = (p : Program) × IsProgram p × AreWords p.words × (text ≡ object_text p)

-- the bad line of a text that is not an object text: the first line such that no object text begins
-- with the lines up to it; if the text ends too early, the number after that of the last line
pub record IsBadLine (text : List ℕ) (n : ℕ) : Type 0 where
  pub none : IsObjectText text → ⊥
  pub counted : (1 ≤ n) × (n ≤ length (text_lines text) + 1)
  pub good_before : BeginsObjectText (first_lines (n - 1) text)
  pub bad : n ≤ length (text_lines text) → BeginsObjectText (first_lines n text) → ⊥

-- relation of a text to its reading: the program of which it is the object text, or the number of
-- its bad line
abbrev pub IsReading : List ℕ → Result Program ℕ → Type 0
IsReading text (Ok p) = IsProgram p × AreWords p.words × (text ≡ object_text p)
IsReading text (Err n) = IsBadLine text n
