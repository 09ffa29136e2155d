-- The form pass: it checks each card by itself, collects the requests of control cards, and finds
-- the END card.
--
-- Proved: by their `ensures` clauses these calls do what definitions here say: `read_cards`
-- (forming.rt), `add_card` (forming.rt), `add_control` (forming.rt), `add_line` (forming.rt), and
-- others.
-- Read by: definitions in Stops, Assembly, Kept, Valuing.
-- Laws: CardsHaveTheirFirstFault (specs/Laws.antt), PassesStopAtTheFirstFault (specs/Laws.antt).
-- Change: the meaning is fixed by docs/strap.md, since the contracts of `st_top::stretch` and
-- `st_account::ledger` unfold to a definition here. The form is free, with the proofs that unfold
-- it.
use Rattle.std.specs.Prelude.{ℕ, ◌+◌, Bool, true, false, List, [], ◌∷◌, ◌++◌, length, Option, Some, None, Result, Ok, Err, if◌then◌else◌}
use Rattle.st_card.specs.Cards.{text_in}
use Rattle.st_card.specs.Controls.{Asked, nothing_asked, asked_with_card}
use Rattle.st_card.specs.declared.cards.Card.{Card}
use Rattle.st_card.specs.declared.cards.CardKind.{CardKind}
use Rattle.st_card.specs.declared.cards.CardKind.TheVariants.{Comment, Control, Statement as StatementCard}
use Rattle.st_card.specs.declared.faults.Fault.{Fault}
use Rattle.st_card.specs.declared.faults.Fault.TheVariants.{BadName, BadControlCard, CardAfterEnd, NoEnd}
use Rattle.st_strap.specs.Order.{next_reading, reading_map}
use Rattle.st_strap.specs.Saying.{statement_of}
use Rattle.st_strap.specs.Statements.{Statement}
use Rattle.st_strap.specs.declared.statement.Statement.TheVariants.{End}
use Rattle.st_asm.specs.Pass.{Refusal, pass, unless_faulty, pass_then}
use Rattle.st_asm.specs.Lines.{name_field, statement_field, name_in, silent_line, saying}
use Rattle.st_asm.specs.declared.line.ReadCard.{ReadCard}
use Rattle.st_asm.specs.declared.forming.Deck.{Deck}

-- the result of the form pass so far: whether END has been read, the requests, and the cards
pub record Found : Type 0 where
  pub ended : Bool
  pub asked : Asked
  pub lines : List ReadCard

-- the state of the form pass that the code's deck represents
abbrev pub found_in : Deck → Found
found_in d = record { ended = d.ended; asked = d.controls; lines = d.lines.items }

-- the result of the form pass over no cards
abbrev pub found_at_start : Found
found_at_start = record { ended = false; asked = nothing_asked; lines = [] }

-- the fault of a statement card that precedes CardAfterEnd: any that it has by itself but BadName
abbrev pub before_end : Option Fault → Option Fault
before_end (Some BadName) = None
before_end fault = fault

-- the fault of a card that precedes the checks of the form pass, by its kind
abbrev pub first_fault_of : CardKind → Option Fault → Option Fault
first_fault_of StatementCard fault = before_end fault
first_fault_of _ fault = fault

-- whether a statement is END
abbrev pub is_end : Statement → Bool
is_end (End at) = true
is_end _ = false

-- the result with one more card that has been read
abbrev pub with_line : Found → ReadCard → Found
with_line found line = record found { lines = found.lines ++ line ∷ [] }

-- the result with one more statement card
abbrev pub with_statement : Found → ℕ → List ℕ → Statement → Found
with_statement found card name statement =
    record (with_line found (saying card (name_in name) statement)) { ended = is_end statement }

-- the result with one more control card and the requests after it
abbrev pub with_control : Found → ℕ → Asked → Found
with_control found card asked = record (with_line found (silent_line card)) { asked = asked }

-- the form pass over one control card
unfoldable pub form_control : Found → ℕ → List ℕ → Result Found Fault
form_control found card text =
    if found.ended then next_reading BadControlCard (asked_with_card found.asked text)
    (λ asked. Ok (with_control found card asked))
    else Err BadControlCard

-- the form pass over one statement card, given the fault that it has by itself
unfoldable pub form_statement : Found → ℕ → Option Fault → List ℕ → Result Found Fault
form_statement found card fault text = if found.ended then Err CardAfterEnd
    else unless_faulty fault (reading_map (λ s. with_statement found card (name_field text) s)
    (statement_of (name_field text) (statement_field text)))

-- the form pass over one card of a kind
abbrev pub form_kind : CardKind → Found → ℕ → Option Fault → List ℕ → Result Found Fault
form_kind Comment found card fault text = Ok (with_line found (silent_line card))
form_kind Control found card fault text = form_control found card text
form_kind StatementCard found card fault text = form_statement found card fault text

-- the form pass over one card
unfoldable pub form_card : List ℕ → Found → Card → Result Found Fault
form_card job found card = unless_faulty (first_fault_of card.kind card.fault)
    (form_kind card.kind found card.number card.fault (text_in job card))

-- the result of the form pass over n cards: a job without END is refused at card n + 1
abbrev pub with_end : ℕ → Found → Result Found Refusal
with_end cards found =
    if found.ended then Ok found else Err (record { card = cards + 1; fault = NoEnd })

-- the form pass over the cards of a job
unfoldable pub form_pass : List ℕ → List Card → Result Found Refusal
form_pass job cards = pass_then (pass (form_card job) (λ card. card.number) found_at_start cards)
    (with_end (length cards))
