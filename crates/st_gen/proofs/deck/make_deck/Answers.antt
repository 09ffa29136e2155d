use Rattle.std.proofs.Common.{rules, ◌≡◌}
use Rattle.st_gen.specs.Deck.{made_deck}
use Rattle.st_gen.proofs.Sizes.{made_deck-short, short-as}
use Rattle.st_gen.proofs.deck.make_deck.Goals as goal

pub returns-clause-short : goal.returns-clause-short
returns-clause-short c =
    let deck : c.push_deck.new.deck.items ≡ made_deck c.args.number c.args.cards = search rules in
    short-as _ _ _ deck (made_deck-short c.args.number c.args.cards c.ranges.cards.fits)
