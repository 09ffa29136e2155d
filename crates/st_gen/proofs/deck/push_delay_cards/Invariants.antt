-- Loop invariant: one delay is drawn and appended in each round.
use Rattle.std.proofs.Common.{◌≡◌, ◌++◌}
use Rattle.st_gen.specs.Deck.{number_after, delay_cards}
use Rattle.st_gen.proofs.deck.push_delay_cards.Given as goal

abbrev pub invariant-delays : goal.invariant-delays
invariant-delays l = record {
  drawn : l.generator.x ≡ number_after l.counter l.initial.generator.x;
  appended : l.deck.items ≡ l.initial.deck.items ++ delay_cards l.counter l.initial.generator.x;
}
