use Rattle.st_lines.proofs.Common.{false, ap, option_map, Origin}
use Rattle.st_lines.proofs.OriginLemmas.{card_none, card_some}
use Rattle.st_lines.proofs.origins.Origins.at_if.Goals as goal

pub returns-then-facts-clause-card : goal.returns-then-facts-clause-card
returns-then-facts-clause-card c = ap (option_map (λ (o : Origin). o.card)) c.at.ensures

pub returns-then-card-eq0-clause-card : goal.returns-then-card-eq0-clause-card
returns-then-card-eq0-clause-card c =
    card_none c.args.self.now c.args.state.now c.args.h c.number_at-card.result c.number_at-card.ensures c.if-card-eq0.true

pub returns-clause-card : goal.returns-clause-card
returns-clause-card c =
    card_some c.args.self.now c.args.state.now c.args.h c.number_at-card.result false c.number_at-card.ensures c.if-card-eq0.false
