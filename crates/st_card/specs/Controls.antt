-- The requests of a job's control cards.
--
-- Proved: by their `ensures` clauses these calls do what definitions here say: `add_mark`
-- (control_cards.rt), `add` (control_cards.rt), `add_control` (control_cards.rt), `add_delays`
-- (control_cards.rt), and others.
-- Read by: definitions in Limits, Written, Answers, Forming of st_asm, and others.
-- Laws: ControlsComeBack (specs/Laws.antt of st_dis), DelaysChangeNothingButTheTimetable
-- (specs/DelayLaws.antt of st_top), MarksAreTheReport (specs/DelayLaws.antt of st_top).
-- Change: the meaning is fixed by docs/strap.md, since the contracts of `st_top::stretch` and
-- `st_account::ledger` unfold to a definition here. The form is free, with the proofs that unfold
-- it.
use Rattle.std.specs.Prelude.{ℕ, ◌+◌, ◌==◌, ◌&&◌, Bool, true, false, nat_le, nat_lt, List, [], ◌∷◌, ◌++◌, length, slice_get, Option, Some, None, if◌then◌else◌}
use Rattle.std.specs.List.{list_all}
use Rattle.std.specs.Option.{option_map_or}
use Rattle.st_bits.specs.declared.limits.TheConstants.{LAST_WORD, MOST_INSTRUCTIONS, LONGEST_LIST, MOST_DELAY}
use Rattle.st_bits.specs.declared.indicators.TheConstants.{CHANNEL_SIGNAL}
use Rattle.st_card.specs.declared.limits.TheConstants.{MOST_DUMPS, MOST_SNAPS}
use Rattle.st_text.specs.Pieces.{words}
use Rattle.st_card.specs.Cards.{columns}
use Rattle.st_card.specs.declared.control_cards.Signal.{Signal}
use Rattle.st_card.specs.declared.keywords.Keyword.{Keyword}
use Rattle.st_card.specs.declared.keywords.Keyword.TheVariants.{Listing, Mark, Once, Number, Pair}
use Rattle.st_card.specs.declared.keywords.Mark.{Mark as MarkKeyword}
use Rattle.st_card.specs.declared.keywords.Mark.TheVariants.{Trace, Time, Chart}
use Rattle.st_card.specs.declared.keywords.Once.{Once as OnceKeyword}
use Rattle.st_card.specs.declared.keywords.Once.TheVariants.{Budget, Back}
use Rattle.st_card.specs.declared.keywords.Number.TheVariants.{Delays, Snap}
use Rattle.st_card.specs.declared.keywords.Pair.TheVariants.{Signals, Dump}
use Rattle.st_card.specs.declared.keywords.Control.{Control}
use Rattle.st_card.specs.declared.keywords.ControlForm.TheVariants.{Card}
use Rattle.st_card.specs.Keywords.{keyword_order, most, keyword_in, keyword_of, numbers_of, card_numbers}

-- the requests of control cards: without a card numbers are 0, lists empty and flags off
pub record Asked : Type 0 where
  pub budget : ℕ
  pub delays : List ℕ
  pub signals : List Signal
  pub dumps : List (ℕ × ℕ)
  pub snaps : List ℕ
  pub list : Bool
  pub trace : Bool
  pub time : Bool
  pub chart : Bool
  pub back : ℕ

-- the requests of a job without control cards
abbrev pub nothing_asked : Asked
nothing_asked = record {
  budget = 0;
  delays = [];
  signals = [];
  dumps = [];
  snaps = [];
  list = false;
  trace = false;
  time = false;
  chart = false;
  back = 0;
}

-- whether the request of a mark is made
abbrev pub is_marked : MarkKeyword → Asked → Bool
is_marked Trace asked = asked.trace
is_marked Time asked = asked.time
is_marked Chart asked = asked.chart

-- the requests with that of a mark made or not
abbrev pub with_mark : MarkKeyword → Bool → Asked → Asked
with_mark Trace made asked = record asked { trace = made }
with_mark Time made asked = record asked { time = made }
with_mark Chart made asked = record asked { chart = made }

-- the number of a request that is allowed once, 0 without it
abbrev pub number_of : OnceKeyword → Asked → ℕ
number_of Budget asked = asked.budget
number_of Back asked = asked.back

-- the requests with this number in one that is allowed once
abbrev pub with_number : OnceKeyword → ℕ → Asked → Asked
with_number Budget n asked = record asked { budget = n }
with_number Back n asked = record asked { back = n }

-- whether a number is in a range
abbrev pub is_in_range : ℕ → ℕ → ℕ → Bool
is_in_range least most n = nat_le least n && nat_le n most

-- whether the last item of a list passes a test; true for an empty list
abbrev pub last_passes : {X : Type 0} → (X → Bool) → List X → Bool
last_passes test [] = true
last_passes test (item ∷ more) = option_map_or test (slice_get (item ∷ more) (length more)) true

-- the requests with one added that is allowed once, its number from 1 to its greatest one
abbrev pub with_once : OnceKeyword → Asked → List ℕ → Option Asked
with_once once kept (n ∷ []) = if number_of once kept == 0 && is_in_range 1 (most once) n
    then Some (with_number once n kept) else None
with_once once kept _ = None

-- the requests with `/DELAYS d d` added: one or more delays, each from 1 to 255, at most 4,096 over
-- all cards
abbrev pub with_delays : Asked → List ℕ → Option Asked
with_delays kept [] = None
with_delays kept (n ∷ ns) = if nat_le (length kept.delays + length (n ∷ ns)) LONGEST_LIST
    && list_all (is_in_range 1 MOST_DELAY) (n ∷ ns)
    then Some (record kept { delays = kept.delays ++ n ∷ ns }) else None

-- the requests with `/SIGNAL count indicator` added: at most 4,096 signals, counts up to 10,000,000
-- and nondecreasing, indicators 0 to 13
abbrev pub with_signal : Asked → List ℕ → Option Asked
with_signal kept (n ∷ i ∷ []) =
    if nat_lt (length kept.signals) LONGEST_LIST && nat_le n MOST_INSTRUCTIONS
    && nat_le i CHANNEL_SIGNAL
    && last_passes (λ s. nat_le s.count n) kept.signals
    then Some (record kept { signals = kept.signals ++ record { count = n; indicator = i } ∷ [] })
    else None
with_signal kept _ = None

-- the requests with `/DUMP from to` added: at most 16 parts, from <= to <= 98,303
abbrev pub with_dump : Asked → List ℕ → Option Asked
with_dump kept (first ∷ last ∷ []) =
    if nat_lt (length kept.dumps) MOST_DUMPS && nat_le first last && nat_le last LAST_WORD
    then Some (record kept { dumps = kept.dumps ++ (first, last) ∷ [] }) else None
with_dump kept _ = None

-- the requests with `/SNAP tick` added: at most 64 ticks, increasing
abbrev pub with_snap : Asked → List ℕ → Option Asked
with_snap kept (n ∷ []) =
    if nat_lt (length kept.snaps) MOST_SNAPS && last_passes (λ tick. nat_lt tick n) kept.snaps
    then Some (record kept { snaps = kept.snaps ++ n ∷ [] }) else None
with_snap kept _ = None

-- the requests with a further one, which is allowed once and without numbers
abbrev pub with_flag : Bool → Asked → List ℕ → Option Asked
with_flag asked new [] = if asked then None else Some new
with_flag asked new _ = None

-- the requests with a card added that has this keyword and these numbers, if they are allowed
abbrev pub with_keyword : Keyword → Asked → List ℕ → Option Asked
with_keyword Listing kept = with_flag kept.list (record kept { list = true })
with_keyword (Mark mark) kept = with_flag (is_marked mark kept) (with_mark mark true kept)
with_keyword (Once once) kept = with_once once kept
with_keyword (Number Delays) kept = with_delays kept
with_keyword (Number Snap) kept = with_snap kept
with_keyword (Pair Signals) kept = with_signal kept
with_keyword (Pair Dump) kept = with_dump kept

-- the requests with one request added, if it is allowed
abbrev pub with_control : Asked → Control → Option Asked
with_control kept control = with_keyword (keyword_of control) kept (numbers_of control)

-- the requests with a card added, if its keyword and its numbers are valid
abbrev pub with_card : Asked → Option Keyword → Option (List ℕ) → Option Asked
with_card kept (Some keyword) (Some numbers) = with_keyword keyword kept numbers
with_card kept (Some keyword) None = None
with_card kept None numbers = None

-- the requests with a card of these words added: a keyword, then its numbers
abbrev pub with_words : Asked → List (List ℕ) → Option Asked
with_words kept [] = None
with_words kept (word ∷ more) = with_card kept (keyword_in Card word keyword_order) (card_numbers more)

-- the requests with one more control card of this text added; None if the card is refused
abbrev pub asked_with_card : Asked → List ℕ → Option Asked
asked_with_card kept text = with_words kept (words (columns text))
