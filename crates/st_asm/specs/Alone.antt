-- The bits that a single statement assembles to, on a card without a name at a location in storage.
--
-- Proved: by their `ensures` clauses these calls do what definitions here say: `emitted_alone`
-- (alone.rt), `emitted_by` (alone.rt).
-- Read by: definitions in Read of st_dis, Spelling of st_dis.
-- Laws: none names a definition of this file itself.
-- Change: the meaning is fixed by docs/strap.md, since the contract of `st_top::stretch` unfolds to
-- a definition here. The form is free, with the proofs that unfold it.
use Rattle.std.specs.Prelude.{ℕ, List, [], Option, Some, None, is_none, Result, Ok, Err, if◌then◌else◌}
use Rattle.st_card.specs.declared.faults.Fault.{Fault}
use Rattle.st_strap.specs.Saying.{statement_of}
use Rattle.st_strap.specs.Statements.{Statement}
use Rattle.st_asm.specs.Symbols.{accepts_all, is_defined}
use Rattle.st_asm.specs.Values.{values_of}
use Rattle.st_asm.specs.Places.{placing_of, length_in}
use Rattle.st_asm.specs.Naming.{naming_at_start}
use Rattle.st_asm.specs.Checks.{value_fault}
use Rattle.st_asm.specs.Emitting.{bits_of}
use Rattle.st_asm.specs.declared.values.Values.{Values}
use Rattle.st_asm.specs.declared.alone.EmittedBits.{EmittedBits}

-- the bits of a statement with these values, if it has no fault at the first location
abbrev pub emitted_with : Statement → Values → Option EmittedBits
emitted_with s v = if is_none (value_fault s v naming_at_start.location)
    then Some (record { length = length_in (placing_of s); bits = bits_of s v }) else None

-- the bits that a statement assembles to, if its names are all in a table and it has no fault
unfoldable pub emitted_by : List (List ℕ × ℕ) → Statement → Option EmittedBits
emitted_by symbols s =
    if accepts_all (is_defined symbols) s then emitted_with s (values_of symbols s) else None

-- the bits that a statement assembles to, if it was read without a fault
abbrev pub emitted_if_read : List (List ℕ × ℕ) → Result Statement Fault → Option EmittedBits
emitted_if_read symbols (Ok s) = emitted_by symbols s
emitted_if_read symbols (Err fault) = None

-- the bits that a statement's text assembles to, if it has no fault
unfoldable pub emitted_alone : List (List ℕ × ℕ) → List ℕ → Option EmittedBits
emitted_alone symbols text = emitted_if_read symbols (statement_of [] text)
