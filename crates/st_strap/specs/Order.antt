-- Order of faults: of two faults on one card, the earlier in the list counts.
--
-- Proved: by their `ensures` clauses these calls do what definitions here say: `both` (fields.rt),
-- `earlier` (fields.rt), `rank` (fields.rt), `with_sign` (fields.rt).
-- Read by: definitions in Reading, Saying, Forming of st_asm.
-- Laws: none names a definition of this file itself.
-- Change: the meaning is fixed by docs/strap.md, since the contracts of `st_top::stretch` and
-- `st_account::ledger` unfold to a definition here. The form is free, with the proofs that unfold
-- it.
use Rattle.std.specs.Prelude.{ℕ, nat_lt, Option, Some, None, Result, Ok, Err, if◌then◌else◌}
use Rattle.st_card.specs.declared.faults.Fault.{Fault}
use Rattle.st_card.specs.declared.faults.Fault.TheVariants.{NotAscii, CardTooLong, BadName, UnknownOperation, BadDataDescription, BadProgressive, BadFieldCount, BadExpression, BadIndex, NumberTooLarge, BadControlCard, CardAfterEnd, NoEnd, TooManyCards, NameTwice, UndefinedSymbol, SymbolNotEarlier, TooManyNames, AddressOutOfRange, ValueDoesNotFit, NotOnABoundary, LocationOutOfStorage, BadObjectCard}

-- a fault's position in the list of all faults
abbrev pub rank : Fault → ℕ
rank NotAscii = 0
rank CardTooLong = 1
rank BadName = 2
rank UnknownOperation = 3
rank BadDataDescription = 4
rank BadProgressive = 5
rank BadFieldCount = 6
rank BadExpression = 7
rank BadIndex = 8
rank NumberTooLarge = 9
rank BadControlCard = 10
rank CardAfterEnd = 11
rank NoEnd = 12
rank TooManyCards = 13
rank NameTwice = 14
rank UndefinedSymbol = 15
rank SymbolNotEarlier = 16
rank TooManyNames = 17
rank AddressOutOfRange = 18
rank ValueDoesNotFit = 19
rank NotOnABoundary = 20
rank LocationOutOfStorage = 21
rank BadObjectCard = 22

-- the fault of two that is earlier in the list
abbrev pub earlier_fault : Fault → Fault → Fault
earlier_fault a b = if nat_lt (rank b) (rank a) then b else a

-- both values, or the earlier fault if one or both are faults
abbrev pub both_of : {A B : Type 0} → Result A Fault → Result B Fault → Result (A × B) Fault
both_of (Ok a) (Ok b) = Ok (a, b)
both_of (Ok a) (Err f) = Err f
both_of (Err e) (Ok b) = Err e
both_of (Err e) (Err f) = Err (earlier_fault e f)

-- a reading with a function applied to its value
abbrev pub reading_map : {A B : Type 0} → (A → B) → Result A Fault → Result B Fault
reading_map f (Ok a) = Ok (f a)
reading_map f (Err e) = Err e

-- the next reading from an optional value; the given fault if there is no value
abbrev pub next_reading : {A B : Type 0} → Fault → Option A → (A → Result B Fault) → Result B Fault
next_reading fault None next = Err fault
next_reading fault (Some a) next = next a
