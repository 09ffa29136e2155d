-- What a call that adds a control card may answer (`Addition`, `CardError`), and what each answer
-- says of the controls before and after the call.
--
-- Proved: by their `ensures` clauses these calls do what definitions here say: `add`
-- (control_cards.rt), `add_control` (control_cards.rt), `add_delays` (control_cards.rt), `add_dump`
-- (control_cards.rt), and others.
-- Laws: none names a definition of this file itself.
-- Change: no page fixes these definitions, since no contract of a program unfolds to them; they
-- change together with the clauses, definitions and laws that name them. docs/strap.md describes
-- the subject.
use Rattle.std.specs.Prelude.{◌≡◌, ◌≢◌, ℕ, Bool, true, false, List, [], ◌++◌, length, Option, Some, None, IsSome}
use Rattle.st_card.specs.Controls.{Asked}
use Rattle.st_card.specs.declared.faults.Fault.TheVariants.{BadControlCard}
use Rattle.st_card.specs.declared.keywords.Addition.{Addition}
use Rattle.st_card.specs.declared.keywords.Addition.TheVariants.{Added, Refused, NoMemory}
use Rattle.st_card.specs.declared.control_cards.CardError.{CardError}
use Rattle.st_card.specs.declared.control_cards.CardError.TheVariants.{Refused as CardRefused, NoMemory as CardNoMemory}

-- relation of an addition's outcome to the controls before and after it and to the controls with
-- the card's request
abbrev pub Settles : Asked → Asked → Option Asked → Addition → Type 0
Settles old new wanted Added = wanted ≡ Some new
Settles old new wanted Refused = (wanted ≡ None) × (new ≡ old)
Settles old new wanted NoMemory = IsSome wanted × (new ≡ old)

-- relation of an addition's outcome to a list before and after items are appended
abbrev pub Appends : {X : Type 0} → List X → List X → List X → Addition → Type 0
Appends old new items Added = new ≡ old ++ items
Appends old new items Refused = ⊥
Appends old new items NoMemory = new ≡ old

-- relation of an addition's outcome to a flag before and after; a keyword with numbers sets none
abbrev pub Marks : Bool → Bool → List ℕ → Addition → Type 0
Marks old new numbers Added = (old ≡ false) × (new ≡ true) × (numbers ≡ [])
Marks old new numbers Refused = (new ≡ old) × ((old ≡ false) → length numbers ≢ 0)
Marks old new numbers NoMemory = ⊥

-- why a card was not added: its request is not allowed (`wanted` is None), or memory ran out
abbrev pub Explains : Option Asked → ℕ → CardError → Type 0
Explains wanted number (CardRefused card fault) =
    (wanted ≡ None) × (card ≡ number) × (fault ≡ BadControlCard)
Explains wanted number CardNoMemory = IsSome wanted
