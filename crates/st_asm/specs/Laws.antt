-- Laws of the three passes for all jobs.
--
-- Proved: each law has its lemma in proofs/Laws.antt, with its name in small letters.
-- Claimed: docs/CLAIMS.md names CardsHaveTheirFirstFault, PassesStopAtTheFirstFault.
-- Change: docs/promises.txt lists each law, and the gate compares the list with the laws.
use Rattle.std.specs.Prelude.{◌≡◌, List, ℕ, Bool}
use Rattle.st_card.specs.declared.cards.Card.{Card}
use Rattle.st_asm.specs.Forming.{Found, form_card, found_at_start}
use Rattle.st_asm.specs.Naming.{name_card, naming_at_start}
use Rattle.st_asm.specs.Stops.{StopsAtFirst, StopsForm, StopsInOrder, form_fault}
use Rattle.st_asm.specs.Valuing.{value_card, emitting_at_start}
use Rattle.std.specs.Result.{result_err}

-- A pass is refused if and only if some card has a fault in the state that the cards before it
-- leave and none of those has a fault; it is refused at that card and for that fault. The form pass
-- is also refused if no card is faulty and none is END. A job is refused by the earliest pass that
-- is refused.
pub record PassesStopAtTheFirstFault : Type 0 where
  pub form : (job : List ℕ) → StopsAtFirst (form_card job) (λ card. card.number) found_at_start
  pub name : (on_cards : List ℕ → Bool)
      → StopsAtFirst (name_card on_cards) (λ line. line.card) naming_at_start
  pub value : (symbols : List (List ℕ × ℕ))
      → StopsAtFirst (value_card symbols) (λ p. p.0.card) emitting_at_start
  pub end : (job : List ℕ) (cards : List Card) → StopsForm job cards
  pub order : (job : List ℕ) → StopsInOrder job

-- The form pass refuses a card for the first of its faults, in the order in which they count.
abbrev pub CardsHaveTheirFirstFault : Type 0
CardsHaveTheirFirstFault = (job : List ℕ) (found : Found) (card : Card) →
    result_err (form_card job found card) ≡ form_fault card.kind job found card
