-- The name pass: it defines names and assigns a location to each card.
--
-- Proved: by their `ensures` clauses these calls do what definitions here say: `name_lines`
-- (naming.rt), `add_line` (naming.rt), `name_line` (naming.rt), `name_pass` (naming.rt), and
-- others.
-- Read by: definitions in Assembly, Stops, Alone, Kept.
-- Laws: PassesStopAtTheFirstFault (specs/Laws.antt).
-- Change: the meaning is fixed by docs/strap.md, since the contracts of `st_top::stretch` and
-- `st_account::ledger` unfold to a definition here. The form is free, with the proofs that unfold
-- it.
use Rattle.std.specs.Prelude.{◌≡◌, ◌<◌, ◌^◌, ℕ, ◌&&◌, Bool, true, false, not, nat_le, List, [], ◌∷◌, ◌++◌, length, Option, Some, None, unwrap_or, is_some, Result, Ok, if◌then◌else◌}
use Rattle.st_card.specs.Cards.{first_fault}
use Rattle.st_card.specs.declared.faults.Fault.{Fault}
use Rattle.st_card.specs.declared.faults.Fault.TheVariants.{NameTwice, UndefinedSymbol, SymbolNotEarlier, TooManyNames}
use Rattle.st_strap.specs.Statements.{Statement}
use Rattle.st_asm.specs.Pass.{Refusal, pass, unless_faulty}
use Rattle.st_asm.specs.Symbols.{table, accepts_all, has_name, is_defined, names_of}
use Rattle.st_asm.specs.Values.{values_of}
use Rattle.st_asm.specs.Places.{placing_of, place_in, behind_in, needs_earlier}
use Rattle.st_asm.specs.declared.line.ReadCard.{ReadCard}
use Rattle.st_asm.specs.declared.naming.Symbol.{Symbol}
use Rattle.st_asm.specs.declared.naming.Names.{Names}
use Rattle.st_asm.specs.declared.naming.TheConstants.{MOST_NAMES}

-- the name pass so far: location counter, symbols in order of definition, locations of the cards
pub record Named : Type 0 where
  pub location : ℕ
  pub symbols : List Symbol
  pub places : List (Option ℕ)

-- the state of the name pass that the code's names represent
abbrev pub named_in : Names → Named
named_in n = record { location = n.location; symbols = n.symbols.items; places = n.places.items }

-- the look-up table has exactly the symbols, and the location counter is a bit address
pub record AreNamesKept (names : Names) : Type 0 where
  pub table_is : names.table ≡ table names.symbols.items
  pub location_fits : names.location < 2 ^ 24

-- the result of the name pass over no cards: the location counter is bit 0 of word 32
abbrev pub naming_at_start : Named
naming_at_start = record { location = 2048; symbols = []; places = [] }

-- whether a card's name is already in the table
abbrev pub is_name_taken : List (List ℕ × ℕ) → Option (List ℕ) → Bool
is_name_taken symbols None = false
is_name_taken symbols (Some name) = is_defined symbols name

-- whether a test accepts the names in a card's expressions
abbrev pub is_known : (List ℕ → Bool) → Option Statement → Bool
is_known test None = true
is_known test (Some s) = accepts_all test s

-- whether the names in a card's expressions are in the table, if its statement requires that
abbrev pub is_earlier : List (List ℕ × ℕ) → Option Statement → Bool
is_earlier symbols None = true
is_earlier symbols (Some s) =
    if needs_earlier (placing_of s) then accepts_all (is_defined symbols) s else true

-- the fault of a card in the name pass, if it has one; the test says which names any card defines
unfoldable pub name_fault : (List ℕ → Bool) → Named → ReadCard → Option Fault
name_fault on_cards named line = let symbols = table named.symbols in first_fault (
    (is_name_taken symbols line.name, NameTwice)
    ∷ (not (is_known on_cards line.statement), UndefinedSymbol)
    ∷ (not (is_earlier symbols line.statement), SymbolNotEarlier)
    ∷ (is_some line.name && nat_le MOST_NAMES (length named.symbols), TooManyNames)
    ∷ [])

-- the location of a card, given the location counter, if it has a statement and that has one
abbrev pub place_of_card : List (List ℕ × ℕ) → ℕ → Option Statement → Option ℕ
place_of_card symbols here None = None
place_of_card symbols here (Some s) = place_in (placing_of s) here (values_of symbols s).first

-- the location counter after a card
abbrev pub location_behind : List (List ℕ × ℕ) → ℕ → Option Statement → ℕ
location_behind symbols here None = here
location_behind symbols here (Some s) = behind_in (placing_of s) here (values_of symbols s).first

-- the symbol of a name with a location, if both are present
abbrev pub symbol_of : Option (List ℕ) → Option ℕ → List Symbol
symbol_of None place = []
symbol_of (Some name) place = record { name = name; value = unwrap_or place 0 } ∷ []

-- the result of the name pass with one more card that has no fault
unfoldable pub name_step : Named → ReadCard → Named
name_step named line =
    let place = place_of_card (table named.symbols) named.location line.statement in record {
      location = location_behind (table named.symbols) named.location line.statement;
      symbols = named.symbols ++ symbol_of line.name place;
      places = named.places ++ place ∷ [];
    }

-- the name pass over one card
unfoldable pub name_card : (List ℕ → Bool) → Named → ReadCard → Result Named Fault
name_card on_cards named line =
    unless_faulty (name_fault on_cards named line) (Ok (name_step named line))

-- the name pass over the cards of a job
unfoldable pub name_pass : List ReadCard → Result Named Refusal
name_pass lines =
    pass (name_card (has_name (names_of lines))) (λ line. line.card) naming_at_start lines
