-- Loop invariant: one card is drawn and appended in each round.
use Rattle.std.proofs.Common.{◌≡◌, ◌++◌}
use Rattle.st_gen.specs.Deck.{after_cards, drawn_cards}
use Rattle.st_gen.proofs.deck.push_drawn_cards.Given as goal

abbrev pub invariant-cards : goal.invariant-cards
invariant-cards l = record {
  drawn : l.generator.x ≡ after_cards l.counter l.initial.generator.x;
  appended : l.deck.items ≡ l.initial.deck.items ++ drawn_cards l.counter l.initial.generator.x;
}
