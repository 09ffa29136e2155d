use Rattle.st_card.proofs.Common.{front_of_front, front_of_whole, behind_whole}
use Rattle.st_card.proofs.CardLemmas.{card_first}
use Rattle.st_card.proofs.cards.first_line.Goals as goal

pub returns-in-Some-clause-cards : goal.returns-in-Some-clause-cards
returns-in-Some-clause-cards c =
    card_first c.args.text.now c.in-Some.line.now c.without_return.result.now c.in-Some.after.now c.in-Some.ensures.pieces
    c.without_return.ensures.text c.in-Some.ensures.lengths

pub returns-in-Some-clause-front : goal.returns-in-Some-clause-front
returns-in-Some-clause-front c =
    front_of_front _ _ _ c.without_return.ensures.front (front_of_whole _ _ _ _ c.in-Some.ensures.whole)

pub returns-in-Some-clause-behind : goal.returns-in-Some-clause-behind
returns-in-Some-clause-behind c = behind_whole _ _ _ _ c.in-Some.ensures.whole
