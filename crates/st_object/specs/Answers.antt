-- The results of adding a line and of reading an object text, related to the specified results.
--
-- Proved: by their `ensures` clauses these calls do what definitions here say: `read_object`
-- (reading.rt), `add` (drafts.rt), `push_word` (drafts.rt), `put` (drafts.rt), and others.
-- Laws: none names a definition of this file itself.
-- Change: no page fixes these definitions, since no contract of a program unfolds to them; they
-- change together with the clauses, definitions and laws that name them. docs/object-text.md
-- describes the subject.
use Rattle.std.specs.Prelude.{◌≡◌, ℕ, List, ◌++◌, Option, Some, None, Result, Ok, Err}
use Rattle.st_card.specs.declared.faults.Fault.TheVariants.{BadObjectCard}
use Rattle.st_object.specs.Draft.{Draft}
use Rattle.st_object.specs.Object.{Program, IsBadLine}
use Rattle.st_object.specs.declared.reading.ObjectError.{ObjectError}
use Rattle.st_object.specs.declared.reading.ObjectError.TheVariants.{Refused as ObjectRefused, NoMemory as ObjectNoMemory}
use Rattle.st_card.specs.declared.keywords.Addition.{Addition}
use Rattle.st_card.specs.declared.keywords.Addition.TheVariants.{Added, Refused, NoMemory}

-- relation of an addition's outcome to the draft after it and to the specified draft, if the line
-- is allowed
abbrev pub Settles : Draft → Option Draft → Addition → Type 0
Settles new wanted Added = wanted ≡ Some new
Settles new wanted Refused = wanted ≡ None
Settles new wanted NoMemory = Unit {0}

-- relation of an addition's outcome to a list before and after items are appended
abbrev pub Appends : {X : Type 0} → List X → List X → List X → Addition → Type 0
Appends old new items Added = new ≡ old ++ items
Appends old new items Refused = ⊥
Appends old new items NoMemory = Unit {0}

-- why a text was not read: it is not an object text, or there was not enough memory
abbrev pub Explains : Result Program ℕ → ObjectError → Type 0
Explains read (ObjectRefused card fault) = (read ≡ Err card) × (fault ≡ BadObjectCard)
Explains read ObjectNoMemory = Unit {0}

-- relation of the specified reading of a text to the result of reading it
abbrev pub Gives : Result Program ℕ → Result Program ObjectError → Type 0
Gives read (Ok program) = read ≡ Ok program
Gives read (Err e) = Explains read e

-- a refusal has the number of the bad line of a text
abbrev pub NamesBadLine : List ℕ → ObjectError → Type 0
NamesBadLine text (ObjectRefused card fault) = IsBadLine text card
NamesBadLine text ObjectNoMemory = Unit {0}
