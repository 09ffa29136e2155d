-- Laws of the reading of object texts, and of the lines of object texts and decks. The numbers that
-- definitions take from the code of this crate.
--
-- Proved: each law has its lemma in proofs/Laws.antt, with its name in small letters.
-- Claimed: docs/CLAIMS.md names EachTextHasOneReading, LevelsInFigures, LinesAreTheDeck,
-- LinesAreTheObjectText, and others.
-- Change: docs/promises.txt lists each law, and the gate compares the list with the laws.
use Rattle.std.specs.Prelude.{◌≡◌, ℕ, List, Result}
use Rattle.st_io.specs.Lines.{text}
use Rattle.st_dis.specs.Deck.{deck_text}
use Rattle.st_object.specs.Object.{Program, IsReading, object_text}
use Rattle.st_top.specs.ObjectText.{object_text_lines, deck_lines}
use Rattle.st_top.specs.declared.command.TheConstants.{MOST_MADE_CARDS}
use Rattle.st_top.specs.declared.reporting.TheConstants.{LEVELS}

-- Each text has exactly one reading, so the output of a command for a job is unique.
pub record EachTextHasOneReading : Type 0 where
  pub some : (text : List ℕ) → (read : Result Program ℕ) × IsReading text read
  pub one : (text : List ℕ) (read also : Result Program ℕ) → IsReading text read →
      IsReading text also → read ≡ also

-- The lines of the object text of a program, joined, are that text.
abbrev pub LinesAreTheObjectText : Type 0
LinesAreTheObjectText = (p : Program) → text (object_text_lines p) ≡ object_text p

-- The lines of the deck of a program, joined, are that deck.
abbrev pub LinesAreTheDeck : Type 0
LinesAreTheDeck = (p : Program) → text (deck_lines p) ≡ deck_text p

-- the number of levels of the machine on which a job runs
pub record LevelsInFigures : Type 0 where
  pub levels : LEVELS ≡ 4

-- the greatest number of drawn cards of a generated deck
pub record MadeCardsInFigures : Type 0 where
  pub most : MOST_MADE_CARDS ≡ 4000
