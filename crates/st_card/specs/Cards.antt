-- The cards of a job: its lines, with their kinds and the faults that each line has by itself.
--
-- Proved: by their `ensures` clauses these calls do what definitions here say: `first_line`
-- (cards.rt), `split` (cards.rt), `card_at` (cards.rt), `columns` (cards.rt), and others.
-- Read by: definitions in Controls, Keywords, Delays of st_top, Stops of st_asm, and others.
-- Laws: CardsStandInTheirJob (specs/Laws.antt), DecksAreCutIntoTheirCards (specs/Laws.antt of
-- st_dis), TheFirstFaultOfTheListCounts (specs/Laws.antt of st_strap).
-- Change: the meaning is fixed by docs/strap.md, since the contracts of `st_top::stretch` and
-- `st_account::ledger` unfold to a definition here. The form is free, with the proofs that unfold
-- it.
use Rattle.std.specs.Prelude.{◌≡◌, ◌≤◌, ℕ, ◌+◌, ◌==◌, ◌||◌, Bool, true, not, nat_lt, min, List, [], ◌∷◌, length, take, drop, Option, Some, None, if◌then◌else◌}
use Rattle.std.specs.List.{list_all}
use Rattle.std.specs.Str.Lines.{strip_carriage_return}
use Rattle.st_bits.specs.declared.limits.TheConstants.{MOST_CARDS}
use Rattle.st_text.specs.Bytes.{line_end, blank, asterisk, slash, is_printable}
use Rattle.st_text.specs.Pieces.{pieces_of}
use Rattle.st_card.specs.declared.faults.Fault.{Fault}
use Rattle.st_card.specs.declared.faults.Fault.TheVariants.{NotAscii, CardTooLong, BadName, TooManyCards}
use Rattle.st_card.specs.declared.cards.CardKind.{CardKind}
use Rattle.st_card.specs.declared.cards.CardKind.TheVariants.{Comment, Control, Statement}
use Rattle.st_card.specs.declared.cards.Card.{Card}

-- the byte in column 1 of a card; a blank for an empty card
abbrev pub first_column : List ℕ → ℕ
first_column [] = blank
first_column (c ∷ cs) = c

-- the columns of a card that are read, 1 to 72
abbrev pub columns : List ℕ → List ℕ
columns text = take 72 text

-- whether a text has nothing but blanks
abbrev pub is_blank : List ℕ → Bool
is_blank text = list_all (λ c. c == blank) text

-- the kind of a card: `*` in column 1 or blank columns make a comment, `/` in column 1 a control
-- card
abbrev pub kind_of : List ℕ → CardKind
kind_of text = if first_column text == asterisk || is_blank (columns text) then Comment
    else (if first_column text == slash then Control else Statement)

-- whether a byte is allowed in column 1: blank, `*` or `/`
abbrev pub is_column_1 : ℕ → Bool
is_column_1 c = c == blank || c == asterisk || c == slash

-- the fault of the first row whose test is true, if there is one
abbrev pub first_fault : List (Bool × Fault) → Option Fault
first_fault [] = None
first_fault (row ∷ rows) = if row.0 then Some row.1 else first_fault rows

-- the fault of card n regardless of the other cards, if it has one
abbrev pub fault_of : ℕ → List ℕ → Option Fault
fault_of n text = first_fault (
    (nat_lt MOST_CARDS n, TooManyCards)
    ∷ (not (is_printable text), NotAscii)
    ∷ (nat_lt 80 (length text), CardTooLong)
    ∷ (not (is_column_1 (first_column text)), BadName)
    ∷ [])

-- card n, whose text begins at an offset of the job
abbrev pub card_at : ℕ → ℕ → List ℕ → Card
card_at n place text = record {
  number = n;
  kind = kind_of text;
  start = place;
  len = min (length text) 80;
  fault = fault_of n text;
}

-- the cards of lines, numbered from n on: an empty last line is no card, and only a line with a
-- line feed loses its carriage return
abbrev pub cards_from : ℕ → ℕ → List (List ℕ) → List Card
cards_from n place [] = []
cards_from n place (line ∷ []) = if length line == 0 then [] else card_at n place line ∷ []
cards_from n place (line ∷ next ∷ more) =
    card_at n place (strip_carriage_return line) ∷ cards_from (n + 1) (place + length line + 1)
    (next ∷ more)

-- the cards of a job; card 20,001, which is one too many, is the last one listed
abbrev pub cards_of : List ℕ → List Card
cards_of job = take (MOST_CARDS + 1) (cards_from 1 0 (pieces_of line_end job))

-- the text of a card, cut from its job
abbrev pub text_in : List ℕ → Card → List ℕ
text_in job card = take card.len (drop card.start job)

-- a card agrees with its text: it lies within the job, its kind is that of the text, and if it has
-- no fault, every byte of its text is printable
pub record IsCardOf (job : List ℕ) (card : Card) : Type 0 where
  pub within : card.start + card.len ≤ length job
  pub short : card.len ≤ 80
  pub kind : card.kind ≡ kind_of (text_in job card)
  pub printable : card.fault ≡ None → is_printable (text_in job card) ≡ true
