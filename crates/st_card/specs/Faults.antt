-- The names of the faults of cards.
--
-- Proved: by their `ensures` clauses these calls do what definitions here say: `name` (faults.rt),
-- `text_of` (faults.rt), `refuse` (program.rt of st_account).
-- Read by: definitions in Output of st_top, Answers of st_account.
-- Laws: none names a definition of this file itself.
-- Change: the meaning is fixed by docs/strap.md, since the contracts of `st_top::stretch` and
-- `st_account::ledger` unfold to a definition here. The form is free, with the proofs that unfold
-- it.
use Rattle.std.specs.Prelude.{ℕ, List, codes}
use Rattle.st_card.specs.declared.faults.Fault.{Fault}
use Rattle.st_card.specs.declared.faults.Fault.TheVariants.{NotAscii, CardTooLong, BadName, UnknownOperation, BadDataDescription, BadProgressive, BadFieldCount, BadExpression, BadIndex, NumberTooLarge, BadControlCard, CardAfterEnd, NoEnd, TooManyCards, NameTwice, UndefinedSymbol, SymbolNotEarlier, TooManyNames, AddressOutOfRange, ValueDoesNotFit, NotOnABoundary, LocationOutOfStorage, BadObjectCard}

-- the name of a fault
abbrev pub name_of : Fault → List ℕ
name_of NotAscii = codes "NOT ASCII"
name_of CardTooLong = codes "CARD TOO LONG"
name_of BadName = codes "BAD NAME"
name_of UnknownOperation = codes "UNKNOWN OPERATION"
name_of BadDataDescription = codes "BAD DATA DESCRIPTION"
name_of BadProgressive = codes "BAD PROGRESSIVE"
name_of BadFieldCount = codes "BAD FIELD COUNT"
name_of BadExpression = codes "BAD EXPRESSION"
name_of BadIndex = codes "BAD INDEX"
name_of NumberTooLarge = codes "NUMBER TOO LARGE"
name_of BadControlCard = codes "BAD CONTROL CARD"
name_of CardAfterEnd = codes "CARD AFTER END"
name_of NoEnd = codes "NO END"
name_of TooManyCards = codes "TOO MANY CARDS"
name_of NameTwice = codes "NAME TWICE"
name_of UndefinedSymbol = codes "UNDEFINED SYMBOL"
name_of SymbolNotEarlier = codes "SYMBOL NOT EARLIER"
name_of TooManyNames = codes "TOO MANY NAMES"
name_of AddressOutOfRange = codes "ADDRESS OUT OF RANGE"
name_of ValueDoesNotFit = codes "VALUE DOES NOT FIT"
name_of NotOnABoundary = codes "NOT ON A BOUNDARY"
name_of LocationOutOfStorage = codes "LOCATION OUT OF STORAGE"
name_of BadObjectCard = codes "BAD OBJECT CARD"
