-- The table of the requests that control cards and object texts can make.
--
-- Proved: by their `ensures` clauses these calls do what definitions here say: `keyword_in`
-- (keywords.rt), `place` (keywords.rt), `card_number` (keywords.rt), `control_in` (keywords.rt),
-- and others.
-- Read by: definitions in Controls, Written, Limits, Order of st_object, and others.
-- Laws: NumbersAgree (specs/Laws.antt of st_laws).
-- Change: the meaning is fixed by docs/strap.md, since the contracts of `st_top::stretch` and
-- `st_account::ledger` unfold to a definition here. The form is free, with the proofs that unfold
-- it.
use Rattle.std.specs.Prelude.{ℕ, Bool, true, false, nat_lt, List, [], ◌∷◌, ◌++◌, length, codes, Option, Some, None, if◌then◌else◌}
use Rattle.std.specs.Option.{option_and_then}
use Rattle.st_bits.specs.declared.limits.TheConstants.{MOST_INSTRUCTIONS}
use Rattle.st_card.specs.declared.limits.TheConstants.{MOST_NUMBER, MOST_BACK}
use Rattle.st_text.specs.Number.{number_up_to}
use Rattle.st_text.specs.Pieces.{words}
use Rattle.st_text.specs.Tables.{is_same}
use Rattle.st_card.specs.Cards.{columns}
use Rattle.st_card.specs.declared.keywords.Mark.TheVariants.{Trace, Time, Chart}
use Rattle.st_card.specs.declared.keywords.Once.{Once as OnceKeyword}
use Rattle.st_card.specs.declared.keywords.Once.TheVariants.{Budget, Back}
use Rattle.st_card.specs.declared.keywords.Number.TheVariants.{Delays, Snap}
use Rattle.st_card.specs.declared.keywords.Pair.TheVariants.{Signals, Dump}
use Rattle.st_card.specs.declared.keywords.Keyword.{Keyword}
use Rattle.st_card.specs.declared.keywords.Keyword.TheVariants.{Listing, Mark, Once, Number, Pair}
use Rattle.st_card.specs.declared.keywords.Control.{Control}
use Rattle.st_card.specs.declared.keywords.Control.TheVariants as asks
use Rattle.st_card.specs.declared.keywords.ControlForm.{ControlForm}
use Rattle.st_card.specs.declared.keywords.ControlForm.TheVariants.{Card, ObjectLine}

-- the keywords in the order in which requests are written
abbrev pub keyword_order : List Keyword
keyword_order =
    Once Budget ∷ Number Delays ∷ Pair Signals ∷ Pair Dump ∷ Mark Trace ∷ Mark Time ∷ Mark Chart
    ∷ Number Snap ∷ Once Back ∷ Listing ∷ []

-- a keyword's position in that order
abbrev pub place : Keyword → ℕ
place (Once Budget) = 0
place (Number Delays) = 1
place (Pair Signals) = 2
place (Pair Dump) = 3
place (Mark Trace) = 4
place (Mark Time) = 5
place (Mark Chart) = 6
place (Number Snap) = 7
place (Once Back) = 8
place Listing = 9

-- the word of a keyword: a card may list several delays, a line of an object text has one
abbrev pub word : Keyword → ControlForm → List ℕ
word (Once Budget) form = codes "BUDGET"
word (Number Delays) Card = codes "DELAYS"
word (Number Delays) ObjectLine = codes "DELAY"
word (Pair Signals) form = codes "SIGNAL"
word (Pair Dump) form = codes "DUMP"
word (Mark Trace) form = codes "TRACE"
word (Mark Time) form = codes "TIME"
word (Mark Chart) form = codes "CHART"
word (Number Snap) form = codes "SNAP"
word (Once Back) form = codes "BACK"
word Listing form = codes "LIST"

-- the greatest number of a request that is allowed once
abbrev pub most : OnceKeyword → ℕ
most Budget = MOST_INSTRUCTIONS
most Back = MOST_BACK

-- whether an object text has to have a line with this keyword
abbrev pub is_required : Keyword → Bool
is_required (Once Budget) = true
is_required (Number Delays) = true
is_required _ = false

-- the keyword of a request
abbrev pub keyword_of : Control → Keyword
keyword_of (asks.Mark mark) = Mark mark
keyword_of (asks.Once once n) = Once once
keyword_of (asks.Number number n) = Number number
keyword_of (asks.Pair pair a b) = Pair pair

-- the numbers of a request
abbrev pub numbers_of : Control → List ℕ
numbers_of (asks.Mark mark) = []
numbers_of (asks.Once once n) = n ∷ []
numbers_of (asks.Number number n) = n ∷ []
numbers_of (asks.Pair pair a b) = a ∷ b ∷ []

-- the request of a keyword with these numbers, if its line has so many; a listing has no line
abbrev pub control_of : Keyword → List ℕ → Option Control
control_of Listing numbers = None
control_of (Mark mark) [] = Some (asks.Mark mark)
control_of (Mark mark) (n ∷ ns) = None
control_of (Once once) (n ∷ []) = Some (asks.Once once n)
control_of (Once once) _ = None
control_of (Number number) (n ∷ []) = Some (asks.Number number n)
control_of (Number number) _ = None
control_of (Pair pair) (a ∷ b ∷ []) = Some (asks.Pair pair a b)
control_of (Pair pair) _ = None

-- the prefix of a request's line: `/` on a card, empty in an object text
abbrev pub front : ControlForm → List ℕ
front Card = codes "/"
front ObjectLine = []

-- the beginning of a line, with its keyword
abbrev pub keyword_text : ControlForm → Keyword → List ℕ
keyword_text form keyword = front form ++ word keyword form

-- the first of some keywords that begins a line with this text
abbrev pub keyword_in : ControlForm → List ℕ → List Keyword → Option Keyword
keyword_in form text [] = None
keyword_in form text (keyword ∷ more) =
    if is_same text (keyword_text form keyword) then Some keyword else keyword_in form text more

-- the number that a word of a control card spells with 1 to 12 digits, if it is one
abbrev pub card_number : List ℕ → Option ℕ
card_number word = if nat_lt 12 (length word) then None else number_up_to MOST_NUMBER word

-- a list of numbers with one number put in front, if both are present
abbrev pub numbers_before : Option ℕ → Option (List ℕ) → Option (List ℕ)
numbers_before (Some n) (Some ns) = Some (n ∷ ns)
numbers_before (Some n) None = None
numbers_before None ns = None

-- the numbers that words spell, if each word is a number
abbrev pub card_numbers : List (List ℕ) → Option (List ℕ)
card_numbers [] = Some []
card_numbers (word ∷ more) = numbers_before (card_number word) (card_numbers more)

-- the request of a keyword with the numbers in a text, of which 72 characters are read
abbrev pub control_in : Keyword → List ℕ → Option Control
control_in keyword text = option_and_then (control_of keyword) (card_numbers (words (columns text)))
