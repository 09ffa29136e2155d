-- Jobs whose texts differ only in their delay cards, and object texts that differ only in their
-- delay lines. They write equal lines except those that are marked.
--
-- Proved: by their `ensures` clauses these calls do what definitions here say: `stretch`
-- (program.rt).
-- Laws: CardsOfDelaysChangeDelaysAlone (specs/DelayLaws.antt).
-- Change: the meaning is fixed by docs/running.md, since the contract of `st_top::stretch` unfolds
-- to a definition here. The form is free, with the proofs that unfold it.
use Rattle.std.specs.Prelude.{◌≡◌, ℕ, ◌≤◌, ◌&&◌, Bool, true, false, not, List, [], ◌∷◌, map, filter, All, Option, Some, None, IsSome, Result, Ok}
use Rattle.std.specs.Option.{option_and_then}
use Rattle.st_bits.specs.declared.limits.TheConstants.{MOST_CARDS}
use Rattle.st_text.specs.Pieces.{words}
use Rattle.st_card.specs.Cards.{cards_of, text_in, kind_of, columns}
use Rattle.st_card.specs.Keywords.{keyword_order, keyword_in}
use Rattle.st_card.specs.Controls.{Asked, nothing_asked, asked_with_card}
use Rattle.st_card.specs.declared.cards.Card.{Card}
use Rattle.st_card.specs.declared.cards.CardKind.{CardKind}
use Rattle.st_card.specs.declared.cards.CardKind.TheVariants.{Control}
use Rattle.st_card.specs.declared.keywords.ControlForm.TheVariants as forms
use Rattle.st_card.specs.declared.keywords.Keyword.{Keyword}
use Rattle.st_card.specs.declared.keywords.Keyword.TheVariants.{Number}
use Rattle.st_card.specs.declared.keywords.Number.TheVariants.{Delays}
use Rattle.st_exch.specs.Reader.{behind_statements}
use Rattle.st_io.specs.Event.{lines_of}
use Rattle.st_object.specs.DelayLines.{DifferInDelayLines, HasDelayLines}
use Rattle.st_object.specs.Object.{Program, IsReading}
use Rattle.st_dis.specs.Deck.{card_count}
use Rattle.st_telling.specs.Report.{joined}
use Rattle.st_top.specs.Marks.{lines_unmarked, marked_output, texts_up_to_end}
use Rattle.st_top.specs.Output.{output_of}
use Rattle.st_top.specs.declared.answer.Status.TheVariants.{Done}
use Rattle.st_top.specs.declared.command.Command.{Command}
use Rattle.st_top.specs.declared.command.Command.TheVariants.{Load, Disassemble}

-- whether a keyword is that of delay cards
abbrev pub is_delays : Option Keyword → Bool
is_delays (Some (Number Delays)) = true
is_delays _ = false

-- whether a list of words begins with that keyword
abbrev pub begins_delays : List (List ℕ) → Bool
begins_delays [] = false
begins_delays (word ∷ more) = is_delays (keyword_in forms.Card word keyword_order)

-- whether a kind is that of control cards
abbrev pub is_control : CardKind → Bool
is_control Control = true
is_control _ = false

-- whether a card with this text is a delay card: a control card that begins with `/DELAYS`
unfoldable pub is_delays_card : List ℕ → Bool
is_delays_card text = is_control (kind_of text) && begins_delays (words (columns text))

-- the texts of the cards of a job after END
abbrev pub texts_behind_end : List ℕ → List (List ℕ)
texts_behind_end job = map (text_in job) (behind_statements (cards_of job))

-- the texts of the cards after END that are not delay cards
abbrev pub others_behind_end : List ℕ → List (List ℕ)
others_behind_end job = filter (λ text. not (is_delays_card text)) (texts_behind_end job)

-- two jobs have equal cards in the same order, apart from the delay cards after END
pub record DifferInDelaysCards (job other : List ℕ) : Type 0 where
  pub up_to_end : texts_up_to_end job ≡ texts_up_to_end other
  pub others : others_behind_end job ≡ others_behind_end other

-- the requests of control cards with these texts, in order; None if a card is bad
unfoldable pub asked_in : Asked → List (List ℕ) → Option Asked
asked_in kept [] = Some kept
asked_in kept (text ∷ texts) =
    option_and_then (λ more. asked_in more texts) (asked_with_card kept text)

-- the texts of the delay cards of a job after END
abbrev pub delays_behind_end : List ℕ → List (List ℕ)
delays_behind_end job = filter is_delays_card (texts_behind_end job)

-- no card has a fault of its own; the delay cards have at most 4,096 numbers, each from 1 to 255
pub record HasGoodDelays (job : List ℕ) : Type 0 where
  pub cards : All (λ (card : Card). card.fault ≡ None) (cards_of job)
  pub delays : IsSome (asked_in nothing_asked (delays_behind_end job))

-- two jobs have equal cards but for delay cards, two object texts equal lines but for delay lines
abbrev pub DifferInDelaysAlone : Command → List ℕ → List ℕ → Type 0
DifferInDelaysAlone Load text other = DifferInDelayLines text other
DifferInDelaysAlone Disassemble text other = DifferInDelayLines text other
DifferInDelaysAlone _ job other = DifferInDelaysCards job other

-- the delay lines of an object text are those of some valid delays
abbrev pub HasGoodLines : List ℕ → Type 0
HasGoodLines text = (delays : List ℕ) × HasDelayLines text delays

-- the deck of an object text does not have too many cards
abbrev pub HasShortDeck : List ℕ → Type 0
HasShortDeck text = (p : Program) → IsReading text (Ok p) → card_count p ≤ MOST_CARDS

-- the delays of a job or an object text are valid for a command
abbrev pub AreDelaysGood : Command → List ℕ → Type 0
AreDelaysGood Load text = HasGoodLines text
AreDelaysGood Disassemble text = HasGoodLines text × HasShortDeck text
AreDelaysGood _ job = HasGoodDelays job

-- a command does not refuse a job, given its reading as an object text
abbrev pub IsAccepted : Command → List ℕ → Result Program ℕ → Type 0
IsAccepted command job read = (output_of command job read).status ≡ Done

-- delays change marked lines alone, and good delays are no reason for a command to refuse a job
pub record DelaysShowInMarksAlone : Type 0 where
  pub marks : (command : Command) (job : List ℕ) (read : Result Program ℕ)
      → joined (marked_output command job read) ≡ lines_of (output_of command job read).events
  pub texts : (command : Command) (job other : List ℕ) (read also : Result Program ℕ)
      → IsReading job read → IsReading other also → IsAccepted command job read
      → IsAccepted command other also → DifferInDelaysAlone command job other
      → lines_unmarked (marked_output command job read)
      ≡ lines_unmarked (marked_output command other also)
  pub accepted : (command : Command) (job other : List ℕ) (read also : Result Program ℕ)
      → IsReading job read → IsReading other also → IsAccepted command job read
      → DifferInDelaysAlone command job other → AreDelaysGood command other
      → IsAccepted command other also
