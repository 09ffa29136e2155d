-- Proofs of the laws of the three passes.
use Rattle.st_asm.specs.Forming.{form_card, found_at_start}
use Rattle.st_asm.specs.Naming.{name_card, naming_at_start}
use Rattle.st_asm.specs.Valuing.{value_card, emitting_at_start}
use Rattle.st_asm.proofs.StopLemmas.{stops-at-first, stops-form, stops-in-order, form_card-fault}
use Rattle.st_asm.specs.Laws.{PassesStopAtTheFirstFault, CardsHaveTheirFirstFault}

pub passes_stop_at_the_first_fault : PassesStopAtTheFirstFault
passes_stop_at_the_first_fault = record {
  form = λ job. stops-at-first (form_card job) (λ card. card.number) found_at_start;
  name = λ on_cards. stops-at-first (name_card on_cards) (λ line. line.card) naming_at_start;
  value = λ symbols. stops-at-first (value_card symbols) (λ p. p.0.card) emitting_at_start;
  end = stops-form;
  order = stops-in-order;
}

pub cards_have_their_first_fault : CardsHaveTheirFirstFault
cards_have_their_first_fault = form_card-fault
