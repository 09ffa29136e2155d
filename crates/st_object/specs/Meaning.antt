-- The meaning of a line of an object text.
--
-- Proved: by their `ensures` clauses these calls do what definitions here say: `item_loosely`
-- (meaning.rt), `hex_digit_in` (meaning.rt), `hex_in` (meaning.rt), `item_behind` (meaning.rt), and
-- others.
-- Read by: definitions in Object.
-- Laws: LinesAreReadBack (specs/Laws.antt), NumbersAgree (specs/Laws.antt of st_laws).
-- Change: no page fixes these definitions, since no contract of a program unfolds to them; they
-- change together with the clauses, definitions and laws that name them. docs/object-text.md
-- describes the subject.
use Rattle.std.specs.Prelude.{ℕ, ◌<◌, ◌+◌, ◌*◌, ◌/◌, ◌%◌, ◌^◌, ◌==◌, nat_lt, List, [], ◌∷◌, length, codes, Option, Some, None, if◌then◌else◌}
use Rattle.std.specs.Option.{option_map, option_and_then, option_or, option_zip}
use Rattle.st_card.specs.Written.{IsShort, IsShortControl}
use Rattle.st_card.specs.declared.limits.TheConstants.{MOST_NUMBER}
use Rattle.st_text.specs.Bytes.{blank, period, letter_a}
use Rattle.st_text.specs.Number.{number_up_to}
use Rattle.st_text.specs.Tables.{is_same, row_of}
use Rattle.st_object.specs.Lines.{line_text}
use Rattle.st_object.specs.declared.items.Item.{Item}
use Rattle.st_card.specs.Keywords.{keyword_order, keyword_in, control_in}
use Rattle.st_card.specs.declared.keywords.ControlForm.TheVariants.{ObjectLine}
use Rattle.st_object.specs.declared.items.Item.TheVariants.{Object, Start, Word, Fin, Ask}
use Rattle.st_object.specs.declared.items.Kind.{Kind}
use Rattle.st_object.specs.declared.items.Kind.TheVariants as kinds

-- the text before the first byte `at` of a text, and the text after it
abbrev pub parts_at : ℕ → List ℕ → Option (List ℕ × List ℕ)
parts_at at [] = None
parts_at at (c ∷ cs) = if c == at then Some ([], cs) else option_map (λ p. (c ∷ p.0, p.1))
    (parts_at at cs)

-- the number that a text spells with at most 12 digits
abbrev pub short_number : List ℕ → Option ℕ
short_number text = number_up_to MOST_NUMBER text

-- two numbers with a separator byte between them
abbrev pub two_numbers : ℕ → List ℕ → Option (ℕ × ℕ)
two_numbers at text = option_and_then (λ p. option_zip (short_number p.0) (short_number p.1))
    (parts_at at text)

-- the value of a hexadecimal digit: the code of `0` is a multiple of 16, and the code of `A`, whose
-- value is 10, is 1 above a multiple of 16, so 9 is added
abbrev pub hex_digit_in : ℕ → ℕ
hex_digit_in c = (if nat_lt c letter_a then c else c + 9) % 16

-- the value of hexadecimal digits
abbrev pub hex_number : List ℕ → ℕ
hex_number [] = 0
hex_number (c ∷ cs) = hex_digit_in c * 16 ^ length cs + hex_number cs

-- a word of storage: its address, and its 64 bits
abbrev pub word_in : List ℕ → Option Item
word_in text = option_and_then
    (λ p. option_map (λ w. Word w (hex_number p.1 % 2 ^ 64)) (short_number p.0))
    (parts_at blank text)

-- the words at the beginning of lines that are no requests, each with its kind
abbrev pub line_words : List (List ℕ × Kind)
line_words =
    (codes "OBJECT", kinds.Object) ∷ (codes "START", kinds.Start) ∷ (codes "W", kinds.Word)
    ∷ (codes "FIN", kinds.Fin) ∷ []

-- the kind of a line that begins with a word
abbrev pub kind_of_word : List ℕ → Option Kind
kind_of_word word = option_or (row_of word line_words)
    (option_map (λ keyword. kinds.Ask keyword) (keyword_in ObjectLine word keyword_order))

-- the item in the text after the word of a kind
abbrev pub item_behind : Kind → List ℕ → Option Item
item_behind kinds.Object text = Some Object
item_behind kinds.Start text = option_map (λ p. Start (2 * p.0 + p.1 / 32))
    (two_numbers period text)
item_behind kinds.Word text = word_in text
item_behind (kinds.Ask keyword) text = option_map (λ control. Ask control) (control_in keyword text)
item_behind kinds.Fin text = Some Fin

-- the item of a word and the text after it
abbrev pub item_of : List ℕ → List ℕ → Option Item
item_of word rest = option_and_then (λ kind. item_behind kind rest) (kind_of_word word)

-- the item of a line if its spelling is right: leading zeros, other letters and extra text are not
-- checked here
abbrev pub item_loosely : Option (List ℕ × List ℕ) → List ℕ → Option Item
item_loosely None line = item_of line []
item_loosely (Some p) line = item_of p.0 p.1

-- an item, if the line is its spelling
abbrev pub if_spelled : List ℕ → Item → Option Item
if_spelled line item = if is_same (line_text item) line then Some item else None

-- the item that a line spells
abbrev pub item_in : List ℕ → Option Item
item_in line = option_and_then (λ item. if_spelled line item)
    (item_loosely (parts_at blank line) line)

-- the bounds of items that can be read
abbrev pub IsItem : Item → Type 0
IsItem Object = Unit {0}
IsItem (Start h) = IsShort (h / 2)
IsItem (Word w x) = IsShort w × (x < 2 ^ 64)
IsItem (Ask asked) = IsShortControl asked
IsItem Fin = Unit {0}
