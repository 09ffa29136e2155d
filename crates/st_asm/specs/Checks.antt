-- The faults of the value pass.
--
-- Proved: by their `ensures` clauses these calls do what definitions here say: `extent`
-- (checks.rt), `fits` (checks.rt), `in_range` (checks.rt), `in_storage` (checks.rt), and others.
-- Read by: definitions in Alone, Valuing.
-- Laws: SizesOfStorageAgree (specs/Laws.antt of st_laws).
-- Change: the meaning is fixed by docs/strap.md, since the contracts of `st_top::stretch` and
-- `st_account::ledger` unfold to a definition here. The form is free, with the proofs that unfold
-- it.
use Rattle.std.specs.Prelude.{ℕ, ℤ, pos, negsuc, ◌+◌, ◌*◌, ◌%◌, ◌^◌, ◌==◌, ◌&&◌, ◌||◌, Bool, true, false, not, nat_le, nat_lt, unsigned_abs, [], ◌∷◌, Option}
use Rattle.st_asm.specs.declared.checks.TheConstants.{MOST_OFFSET, MOST_MOVED, MOST_WAITED, MOST_COUNT, MOST_FLAGS}
use Rattle.st_bits.specs.declared.register.TheConstants.{FIRST_STORAGE_WORD}
use Rattle.st_bits.specs.declared.limits.TheConstants.{WORDS}
use Rattle.st_card.specs.Cards.{first_fault}
use Rattle.st_card.specs.declared.faults.Fault.{Fault}
use Rattle.st_card.specs.declared.faults.Fault.TheVariants.{AddressOutOfRange, ValueDoesNotFit, NotOnABoundary, LocationOutOfStorage}
use Rattle.st_strap.specs.Statements.{Statement}
use Rattle.st_strap.specs.declared.statement.Statement.TheVariants.{Half, Branch, Floating, Vfl, Connect, Move, BitBranch, IndBranch, StoreCounter, Transfer, Data, IndexWord, End}
use Rattle.st_asm.specs.declared.values.Values.{Values}
use Rattle.st_asm.specs.declared.places.Placing.{Placing}
use Rattle.st_asm.specs.declared.places.Placing.TheVariants.{Emits, Passes}
use Rattle.st_asm.specs.Numbers.{holds}
use Rattle.st_asm.specs.Places.{placing_of}

-- whether a number is a bit address: 0 to 2^24 - 1
abbrev pub is_address : ℤ → Bool
is_address (pos n) = nat_lt n (2 ^ 24)
is_address (negsuc n) = false

-- whether each address of a statement is a bit address; an index word's value is not an address
unfoldable pub in_range : Statement → Values → Bool
in_range (IndexWord value count refill flags) v = is_address v.second
in_range _ v = is_address v.first && is_address v.second

-- whether the value, the count and the flags of an index word fit in their fields
abbrev pub fits_index_word : ℤ → ℕ → ℕ → Bool
fits_index_word value count flags =
    nat_lt (unsigned_abs value) (2 ^ 24) && nat_le count MOST_COUNT && nat_le flags MOST_FLAGS

-- whether each value of a statement fits in its field
unfoldable pub fits : Statement → Values → Bool
fits (Vfl op negated form at offset) v = nat_le offset MOST_OFFSET
fits (Connect kind truth form at offset) v = nat_le offset MOST_OFFSET
fits (Move swap at second count) v = nat_le 1 count && nat_le count MOST_MOVED
fits (Transfer write at count) v = nat_le 1 count && nat_le count MOST_WAITED
fits (Data form minus number) v = holds form minus number
fits (IndexWord value count refill flags) v = fits_index_word v.first count flags
fits _ v = true

-- whether a bit address is a multiple of a unit
abbrev pub is_multiple : ℕ → ℤ → Bool
is_multiple unit a = unsigned_abs a % unit == 0

-- whether each half-word address is a multiple of 32 bits, and each refill address one of 64 bits
unfoldable pub on_boundary : Statement → Values → Bool
on_boundary (Half op j at) v = is_multiple 32 v.first
on_boundary (Branch op at) v = is_multiple 32 v.first
on_boundary (Floating number at) v = is_multiple 32 v.first
on_boundary (Move swap at second count) v = is_multiple 32 v.second
on_boundary (BitBranch sense change at second) v = is_multiple 32 v.second
on_boundary (IndBranch sense off at second) v = is_multiple 32 v.second
on_boundary (StoreCounter at second) v = is_multiple 32 v.second
on_boundary (IndexWord value count refill flags) v = is_multiple 64 v.second
on_boundary (End at) v = is_multiple 32 v.first
on_boundary _ v = true

-- the number of bits that a statement assembles to or skips
abbrev pub extent : Placing → ℤ → ℕ
extent (Emits unit bits) value = bits
extent Passes value = unsigned_abs value
extent _ value = 0

-- whether a number of bits from a bit address on are all in storage after the registers
unfoldable pub in_storage : ℕ → ℕ → Bool
in_storage place bits = bits == 0 || (nat_le (64 * FIRST_STORAGE_WORD) place
    && nat_le (place + bits) (64 * WORDS))

-- the fault of a statement with these values at this location, if it has one
unfoldable pub value_fault : Statement → Values → ℕ → Option Fault
value_fault s v place = first_fault (
    (not (in_range s v), AddressOutOfRange)
    ∷ (not (fits s v), ValueDoesNotFit)
    ∷ (not (on_boundary s v), NotOnABoundary)
    ∷ (not (in_storage place (extent (placing_of s) v.first)), LocationOutOfStorage)
    ∷ [])
