-- Proof of the law of the cards in the reader.
use Rattle.st_exch.proofs.CardLemmas.{cards-size, cards-below}
use Rattle.st_exch.specs.Laws.{CardsAreEightWords}

pub cards_are_eight_words : CardsAreEightWords
cards_are_eight_words = record {
  size = λ job. cards-size job;
  below = λ job are. cards-below job are;
}
