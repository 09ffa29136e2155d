-- Laws of the cards of a deck, regardless of single calls.
--
-- Proved: each law has its lemma in proofs/Laws.antt, with its name in small letters.
-- Claimed: docs/CLAIMS.md names CardsAreLines, ControlsComeBack, DecksAreCutIntoTheirCards,
-- DecksAssembleToTheirProgram, and others.
-- Change: docs/promises.txt lists each law, and the gate compares the list with the laws.
use Rattle.std.specs.Prelude.{◌≡◌, ◌≤◌, ◌<◌, ◌*◌, ◌^◌, ◌++◌, ℕ, [], ◌∷◌, All, map, true, false, None, Some, Ok}
use Rattle.st_bits.specs.declared.limits.TheConstants.{MOST_CARDS, WORDS}
use Rattle.st_text.specs.Bytes.{line_end, is_printable}
use Rattle.st_card.specs.Cards.{text_in, cards_of}
use Rattle.st_text.specs.Pieces.{pieces_of}
use Rattle.st_card.specs.Controls.{Asked, nothing_asked}
use Rattle.st_card.specs.Limits.{IsWithinLimits}
use Rattle.st_strap.specs.Reading.{number_expr}
use Rattle.st_strap.specs.Saying.{statement_of}
use Rattle.st_strap.specs.declared.statement.Statement.TheVariants.{SetLocation, End}
use Rattle.st_asm.specs.Assembly.{Assembly, assembly}
use Rattle.st_object.specs.Object.{Program, IsProgram, AreWords}
use Rattle.st_dis.specs.Deck.{location_statement, end_text, control_cards, deck_cards, deck_text, card_count}
use Rattle.st_dis.specs.Spelling.{statements_of}
use Rattle.st_dis.specs.Read.{bits_of_length, emitted_together, CardsLead}

-- The statements of a word have no fault, and the bits that they assemble to, concatenated, are the
-- word's 64 bits.
abbrev pub StatementsEmitTheirWord : Type 0
StatementsEmitTheirWord = (word : ℕ) → word < 2 ^ 64 →
    emitted_together (statements_of word) ≡ Some (bits_of_length 64 word)

-- The card before a run of words sets the location counter to the first of them, and END gives the
-- start; both operands are bit addresses.
pub record PlacesComeBack : Type 0 where
  pub location : (w : ℕ) → w < WORDS →
      statement_of [] (location_statement w) ≡ Ok (SetLocation (number_expr (64 * w)))
  pub start : (start : ℕ) → start < 2 ^ 19 →
      statement_of [] (end_text start) ≡ Ok (End (number_expr (32 * start)))

-- The control cards of a deck are accepted one by one, and together they make the requests of the
-- program.
abbrev pub ControlsComeBack : Type 0
ControlsComeBack = (asked : Asked) → IsWithinLimits asked → 1 ≤ asked.budget → asked.list ≡ false →
    CardsLead nothing_asked (control_cards asked) asked

-- The cards of a deck have only blanks and visible ASCII characters, and they are the pieces of its
-- text between its line ends.
pub record CardsAreLines : Type 0 where
  pub printable : (p : Program) → All (λ card. is_printable card ≡ true) (deck_cards p)
  pub lines : (p : Program) → pieces_of line_end (deck_text p) ≡ deck_cards p ++ [] ∷ []

-- A deck within the assembler's limits is split into its cards: each has its text, and none has a
-- fault by itself.
pub record DecksAreCutIntoTheirCards : Type 0 where
  pub texts : (p : Program) → IsProgram p → AreWords p.words → card_count p ≤ MOST_CARDS →
      map (text_in (deck_text p)) (cards_of (deck_text p)) ≡ deck_cards p
  pub good : (p : Program) → IsProgram p → AreWords p.words → card_count p ≤ MOST_CARDS →
      All (λ card. card.fault ≡ None) (cards_of (deck_text p))

-- The deck of a program assembles to the program: its words of storage, its start, and its
-- requests.
abbrev pub DecksAssembleToTheirProgram : Type 0
DecksAssembleToTheirProgram = (p : Program) → IsProgram p → AreWords p.words → card_count p
    ≤ MOST_CARDS →
    (a : Assembly) × (assembly (deck_text p) ≡ Ok a) × (a.image ≡ p.words) × (a.start ≡ p.start)
    × (a.asked ≡ p.controls)
