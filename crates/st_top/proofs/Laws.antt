-- Proofs of the laws of object texts, and of the numbers.
use Rattle.std.proofs.Common.{refl, sym, ◌∙◌}
use Rattle.st_object.specs.Object.{read_text}
use Rattle.st_object.proofs.ReadingLemmas.{reading-is, reading-only}
use Rattle.st_top.proofs.ObjectTexts.{text-object_lines, text-deck_lines}
use Rattle.st_top.specs.Laws.{EachTextHasOneReading, LinesAreTheObjectText, LinesAreTheDeck, LevelsInFigures, MadeCardsInFigures}

pub each_text_has_one_reading : EachTextHasOneReading
each_text_has_one_reading = record {
  some = λ text. (read_text text, reading-is text);
  one = λ text read also is too. sym (reading-only text read is) ∙ reading-only text also too;
}

pub lines_are_the_object_text : LinesAreTheObjectText
lines_are_the_object_text = text-object_lines

pub lines_are_the_deck : LinesAreTheDeck
lines_are_the_deck = text-deck_lines

pub levels_in_figures : LevelsInFigures
levels_in_figures = record { levels = refl }

pub made_cards_in_figures : MadeCardsInFigures
made_cards_in_figures = record { most = refl }
