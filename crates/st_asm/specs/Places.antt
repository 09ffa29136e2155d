-- The locations of statements, and how statements change the location counter.
--
-- Proved: by their `ensures` clauses these calls do what definitions here say: `bits_of`
-- (emitting.rt), `placing_value` (naming.rt), `placing_of` (places.rt), `aligned` (places.rt), and
-- others.
-- Read by: definitions in Naming, Alone, Valuing, Checks.
-- Laws: none names a definition of this file itself.
-- Change: the meaning is fixed by docs/strap.md, since the contracts of `st_top::stretch` and
-- `st_account::ledger` unfold to a definition here. The form is free, with the proofs that unfold
-- it.
use Rattle.std.specs.Prelude.{ℕ, ℤ, ◌≤◌, ◌+◌, ◌-◌, ◌*◌, ◌/◌, ◌%◌, ◌^◌, Bool, true, false, Option, Some, None}
use Rattle.st_strap.specs.Statements.{Statement}
use Rattle.st_strap.specs.declared.statement.Statement.TheVariants.{Half, Sum, Refill, Branch, Floating, Data, IndexWord, Synonym, SetLocation, Reserve, End}
use Rattle.st_asm.specs.declared.places.Placing.{Placing}
use Rattle.st_asm.specs.declared.places.Placing.TheVariants.{Emits, Passes, Sets, Names, Ends}
use Rattle.st_asm.specs.Values.{value_modulo}

-- the effect of a statement on the location counter; bits begin at the next multiple of a unit
abbrev pub placing_of : Statement → Placing
placing_of (Half op j at) = Emits 32 32
placing_of (Sum j listed) = Emits 32 32
placing_of (Refill j) = Emits 32 32
placing_of (Branch op at) = Emits 32 32
placing_of (Floating number at) = Emits 32 32
placing_of (Data form minus number) = Emits 1 form.length
placing_of (IndexWord value count refill flags) = Emits 64 64
placing_of (Synonym at) = Names
placing_of (SetLocation at) = Sets
placing_of (Reserve at) = Passes
placing_of (End at) = Ends
placing_of _ = Emits 32 64

-- units are 1 to 64, and at most 64 bits are assembled
abbrev pub IsPlacing : Placing → Type 0
IsPlacing (Emits unit bits) = (1 ≤ unit) × (unit ≤ 64) × (bits ≤ 64)
IsPlacing Passes = Unit {0}
IsPlacing Sets = Unit {0}
IsPlacing Names = Unit {0}
IsPlacing Ends = Unit {0}

-- the number of bits that a statement assembles to
abbrev pub length_in : Placing → ℕ
length_in (Emits unit bits) = bits
length_in _ = 0

-- the next multiple of a unit at or after a location, modulo 2^24
abbrev pub next_multiple : ℕ → ℕ → ℕ
next_multiple unit location = (location + (unit - 1)) / unit * unit % 2 ^ 24

-- the location of a statement, given the counter: of its or the skipped bits, or its value
abbrev pub place_in : Placing → ℕ → ℤ → Option ℕ
place_in (Emits unit bits) location value = Some (next_multiple unit location)
place_in Passes location value = Some (next_multiple 64 location)
place_in Ends location value = None
place_in _ location value = Some (value_modulo value)

-- the location counter after a statement
abbrev pub behind_in : Placing → ℕ → ℤ → ℕ
behind_in (Emits unit bits) location value = (next_multiple unit location + bits) % 2 ^ 24
behind_in Passes location value = (next_multiple 64 location + value_modulo value) % 2 ^ 24
behind_in Sets location value = value_modulo value
behind_in _ location value = location

-- whether the names in a statement's field must be defined by earlier cards
abbrev pub needs_earlier : Placing → Bool
needs_earlier (Emits unit bits) = false
needs_earlier Ends = false
needs_earlier _ = true
