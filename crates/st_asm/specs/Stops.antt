-- The card at which a pass stops, defined by the cards before it and its own fault; the pass that
-- refuses a job; and the fault of a card that counts in the form pass.
--
-- Proved: no `ensures` clause names a definition of this file.
-- Laws: PassesStopAtTheFirstFault (specs/Laws.antt), CardsHaveTheirFirstFault (specs/Laws.antt).
-- Change: no page fixes these definitions, since no contract of a program unfolds to them; they
-- change together with the clauses, definitions and laws that name them. docs/strap.md describes
-- the subject.
use Rattle.std.specs.Prelude.{◌≡◌, ◌↔◌, ◌⊎◌, ℕ, ◌+◌, false, List, [], ◌∷◌, ◌++◌, length, Option, None, Some, Result, Ok, Err, if◌then◌else◌}
use Rattle.std.specs.Option.{option_or}
use Rattle.st_card.specs.Cards.{first_fault, cards_of, text_in}
use Rattle.st_card.specs.Controls.{Asked, asked_with_card}
use Rattle.st_card.specs.declared.cards.Card.{Card}
use Rattle.st_card.specs.declared.cards.CardKind.{CardKind}
use Rattle.st_card.specs.declared.cards.CardKind.TheVariants.{Comment, Control, Statement as StatementCard}
use Rattle.st_card.specs.declared.faults.Fault.{Fault}
use Rattle.st_card.specs.declared.faults.Fault.TheVariants.{BadControlCard, CardAfterEnd, NoEnd}
use Rattle.st_strap.specs.Faults.{faults_on}
use Rattle.st_asm.specs.Pass.{Refusal, pass}
use Rattle.st_asm.specs.Lines.{name_field, statement_field}
use Rattle.st_asm.specs.Forming.{Found, found_at_start, before_end, form_card, form_pass}
use Rattle.st_asm.specs.Symbols.{table}
use Rattle.st_asm.specs.Naming.{Named, name_pass}
use Rattle.st_asm.specs.Valuing.{value_pass}
use Rattle.st_asm.specs.Assembly.{assembly}

-- cards without a fault lead from one state to another: each gives the next state from the state
-- that the earlier cards leave
abbrev pub Leads : {S X : Type 0} → (S → X → Result S Fault) → S → List X → S → Type 0
Leads next from [] to = from ≡ to
Leads {S} next from (x ∷ xs) to = (state : S) × (next from x ≡ Ok state) × Leads next state xs to

-- cards have a first faulty one: those before it have no fault in the states they reach, and it has
-- this fault in the state that they leave
pub record HasFirst {S X : Type 0} (next : S → X → Result S Fault) (number : X → ℕ) (from : S)
    (xs : List X)
    (refusal : Refusal) : Type 0 where
  pub before : List X
  pub here : X
  pub after : List X
  pub state : S
  pub parts : xs ≡ before ++ here ∷ after
  pub good : Leads next from before state
  pub bad : next state here ≡ Err refusal.fault
  pub card : number here ≡ refusal.card

-- a pass is refused if and only if there is a first faulty card, and then at that card and for its
-- fault
abbrev pub StopsAtFirst : {S X : Type 0} → (S → X → Result S Fault) → (X → ℕ) → S → Type 0
StopsAtFirst {S} {X} next number from = (xs : List X) (refusal : Refusal) →
    (pass next number from xs ≡ Err refusal) ↔ HasFirst next number from xs refusal

-- no card of a job is faulty by itself, none is END, and the job is refused at the number after the
-- last card
pub record LacksEnd (job : List ℕ) (cards : List Card) (refusal : Refusal) : Type 0 where
  pub found : Found
  pub good : Leads (form_card job) found_at_start cards found
  pub endless : found.ended ≡ false
  pub behind : refusal ≡ record { card = length cards + 1; fault = NoEnd }

-- the form pass is refused if and only if it has a first faulty card, or has none and lacks END
abbrev pub StopsForm : List ℕ → List Card → Type 0
StopsForm job cards = (refusal : Refusal) → (form_pass job cards ≡ Err refusal)
    ↔ (HasFirst (form_card job) (λ card. card.number) found_at_start cards refusal
    ⊎ LacksEnd job cards refusal)

-- the name pass refuses a job that the form pass accepts
pub record StopsAtNames (job : List ℕ) (refusal : Refusal) : Type 0 where
  pub found : Found
  pub formed : form_pass job (cards_of job) ≡ Ok found
  pub refused : name_pass found.lines ≡ Err refusal

-- the value pass refuses a job that the form pass and the name pass accept
pub record StopsAtValues (job : List ℕ) (refusal : Refusal) : Type 0 where
  pub found : Found
  pub formed : form_pass job (cards_of job) ≡ Ok found
  pub named : Named
  pub has_names : name_pass found.lines ≡ Ok named
  pub refused : value_pass (table named.symbols) found.lines named.places ≡ Err refusal

-- a job is refused if and only if a pass refuses it, and then by the earliest pass that does
abbrev pub StopsInOrder : List ℕ → Type 0
StopsInOrder job = (refusal : Refusal) → (assembly job ≡ Err refusal)
    ↔ ((form_pass job (cards_of job) ≡ Err refusal)
    ⊎ (StopsAtNames job refusal ⊎ StopsAtValues job refusal))

-- the fault of a control card after END, given the requests with that card
abbrev pub asking_fault : Option Asked → Option Fault
asking_fault None = Some BadControlCard
asking_fault (Some asked) = None

-- the fault of a card in the form pass that counts first. Faults of its bytes precede all others;
-- for a control card, a position before END precedes faults of its request; for a statement card, a
-- position after END precedes a bad column 1, and that precedes faults of its statement
abbrev pub form_fault : CardKind → List ℕ → Found → Card → Option Fault
form_fault Comment job found card = card.fault
form_fault Control job found card = option_or card.fault
    (if found.ended then asking_fault (asked_with_card found.asked (text_in job card))
    else Some BadControlCard)
form_fault StatementCard job found card = let text = text_in job card in
    option_or (before_end card.fault) (option_or (if found.ended then Some CardAfterEnd else None)
    (option_or card.fault (first_fault (faults_on (name_field text) (statement_field text)))))
