-- The deck of a program.
--
-- Proved: by their `ensures` clauses these calls do what definitions here say: `disassemble`
-- (disassembling.rt), `push_program` (writing.rt), `card_count` (counting.rt), `push_deck`
-- (writing.rt), and others.
-- Read by: definitions in Answers, Marks of st_top, Delays of st_top, ObjectText of st_top, and
-- others.
-- Laws: DecksAreCutIntoTheirCards (specs/Laws.antt), CardsAreLines (specs/Laws.antt),
-- DecksAssembleToTheirProgram (specs/Laws.antt), PlacesComeBack (specs/Laws.antt), and others.
-- Change: the meaning is fixed by docs/disassembly.md, since the contract of `st_top::stretch`
-- unfolds to a definition here. The form is free, with the proofs that unfold it.
use Rattle.std.specs.Prelude.{ℕ, ◌+◌, ◌==◌, List, [], ◌∷◌, ◌++◌, length, map, replicate, codes, decimal, if◌then◌else◌}
use Rattle.st_text.specs.Numerals.{half_address}
use Rattle.st_card.specs.Controls.{Asked}
use Rattle.st_card.specs.Written.{control_line, text_of_lines, requests}
use Rattle.st_card.specs.declared.keywords.ControlForm.TheVariants.{Card}
use Rattle.st_object.specs.Object.{Program}
use Rattle.st_dis.specs.Spelling.{statements_of}

-- a program from its words, start and requests
abbrev pub program : List ℕ → ℕ → Asked → Program
program words start asked = record { words = words; start = start; controls = asked }

-- a statement card: the statement begins in column 10
abbrev pub statement_card : List ℕ → List ℕ
statement_card text = replicate 9 32 ++ text

-- the statement that sets the location counter to word w
abbrev pub location_statement : ℕ → List ℕ
location_statement w = codes "SLC," ++ decimal w ++ codes ".0"

-- the card that sets the location counter to word w, if the word before it is zero
abbrev pub location_cards : ℕ → ℕ → List (List ℕ)
location_cards w before = if before == 0 then statement_card (location_statement w) ∷ [] else []

-- the cards of word w, given the word before it; none if word w is zero
unfoldable pub cards_of_word : ℕ → ℕ → ℕ → List (List ℕ)
cards_of_word w before word =
    if word == 0 then [] else location_cards w before ++ map statement_card (statements_of word)

-- the cards of the words from word w on, given the word before them
abbrev pub word_cards : ℕ → ℕ → List ℕ → List (List ℕ)
word_cards w before [] = []
word_cards w before (x ∷ xs) = cards_of_word w before x ++ word_cards (w + 1) x xs

-- the END statement with the program's start
abbrev pub end_text : ℕ → List ℕ
end_text start = codes "END," ++ half_address start

-- the control cards of requests
abbrev pub control_cards : Asked → List (List ℕ)
control_cards a = map (control_line Card) (requests a)

-- the cards of a program's deck
abbrev pub deck_cards : Program → List (List ℕ)
deck_cards p =
    word_cards 0 0 p.words ++ statement_card (end_text p.start) ∷ [] ++ control_cards p.controls

-- the text of a program's deck
unfoldable pub deck_text : Program → List ℕ
deck_text p = text_of_lines (deck_cards p)

-- the number of cards in a program's deck
unfoldable pub card_count : Program → ℕ
card_count p = length (deck_cards p)
