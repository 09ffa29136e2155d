use Rattle.st_asm.proofs.Common.{◌≡◌, length, All, IsCardOf, pass, form_card, found_in, found_at_start}
use Rattle.st_asm.proofs.forming.read_cards.Given as goal

abbrev pub invariant-cards : goal.invariant-cards
invariant-cards l = record {
  same : pass (form_card l.job) (λ card. card.number) (found_in l.deck) l.rest
      ≡ pass (form_card l.job) (λ card. card.number) found_at_start l.cards;
  texts : All (IsCardOf l.job) l.rest;
}

abbrev pub decreases-cards : goal.decreases-cards
decreases-cards l = length l.rest
