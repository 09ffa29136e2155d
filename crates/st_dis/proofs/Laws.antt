-- Proofs of the laws of the cards of a deck.
use Rattle.st_dis.proofs.WordRead.{statements-emit}
use Rattle.st_dis.proofs.PlacesRead.{location-read, start-read}
use Rattle.st_dis.proofs.ControlsRead.{controls-read}
use Rattle.st_dis.proofs.Printable.{deck_plain, deck_pieces}
use Rattle.st_dis.proofs.Cutting.{deck_texts, deck_good}
use Rattle.st_dis.proofs.AssembledBack.{deck-assembled}
use Rattle.st_dis.specs.Laws.{StatementsEmitTheirWord, PlacesComeBack, ControlsComeBack, CardsAreLines, DecksAreCutIntoTheirCards, DecksAssembleToTheirProgram}

pub statements_emit_their_word : StatementsEmitTheirWord
statements_emit_their_word = statements-emit

pub places_come_back : PlacesComeBack
places_come_back = record {
  location = location-read;
  start = start-read;
}

pub controls_come_back : ControlsComeBack
controls_come_back = controls-read

pub cards_are_lines : CardsAreLines
cards_are_lines = record {
  printable = deck_plain;
  lines = deck_pieces;
}

pub decks_are_cut_into_their_cards : DecksAreCutIntoTheirCards
decks_are_cut_into_their_cards = record {
  texts = deck_texts;
  good = deck_good;
}

pub decks_assemble_to_their_program : DecksAssembleToTheirProgram
decks_assemble_to_their_program = deck-assembled
