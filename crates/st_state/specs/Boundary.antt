-- The words that may not be read, written or executed.
--
-- Proved: by their `ensures` clauses these calls do what definitions here say: `may` (lib.rt),
-- `protects` (lib.rt), `forbidden` (faults.rt of st_prep), `second_known` (fetching.rt of st_prep),
-- and others.
-- Read by: definitions in Checks of st_prep, Reading of st_prep.
-- Laws: none names a definition of this file itself.
-- Change: the meaning is fixed by docs/machine.md, since the contracts of `st_top::stretch` and
-- `st_account::ledger` unfold to a definition here. The form is free, with the proofs that unfold
-- it.
use Rattle.std.specs.Prelude.{ℕ, Bool, not, nat_le, nat_lt, ◌&&◌, ◌||◌, ◌==◌, if◌then◌else◌, Option, None, Some}
use Rattle.st_bits.specs.Bits.{part}
use Rattle.st_bits.specs.Storage.{words_of_storage}
use Rattle.st_bits.specs.declared.register.TheConstants.{BOUNDS, FIRST_STORAGE_WORD}
use Rattle.st_bits.specs.declared.indicators.TheConstants.{ADDRESS_INVALID, DATA_STORE, DATA_FETCH, INSTRUCTION_FETCH}
use Rattle.st_state.specs.Machine.{Machine, word}
use Rattle.st_state.specs.declared.protection.Access.{Access}
use Rattle.st_state.specs.declared.protection.Access.TheVariants.{Read, Write, Fetch}

-- whether word w is invalid for the access: past storage, or a register for an instruction fetch
abbrev pub is_invalid_word : Access → ℕ → Bool
is_invalid_word Read w = nat_le words_of_storage w
is_invalid_word Write w = nat_le words_of_storage w
is_invalid_word Fetch w = nat_le words_of_storage w || nat_lt w FIRST_STORAGE_WORD

-- whether word w lies within the bounds: the upper bound in bits 0-17, the lower in bits 32-49
abbrev pub is_between : ℕ → ℕ → Bool
is_between bounds w = nat_le (part bounds 32 18) w && nat_lt w (part bounds 0 18)

-- whether word w is protected: within the bounds if bit 57 is zero, outside if one; registers never
abbrev pub is_protected : ℕ → Bool → ℕ → Bool
is_protected bounds enabled w = enabled && nat_le FIRST_STORAGE_WORD w
    && (if part bounds 57 1 == 0 then is_between bounds w else not (is_between bounds w))

-- the indicator of an access to an invalid address
abbrev pub address_invalid : ℕ
address_invalid = ADDRESS_INVALID

-- the indicator of each kind of access to a protected word
abbrev pub protection_indicator : Access → ℕ
protection_indicator Read = DATA_FETCH
protection_indicator Write = DATA_STORE
protection_indicator Fetch = INSTRUCTION_FETCH

-- the indicator for a forbidden access to word w, None if the access is allowed
unfoldable pub forbidden_by : ℕ → Bool → Access → ℕ → Option ℕ
forbidden_by bounds enabled access w = if is_invalid_word access w then Some address_invalid
    else if is_protected bounds enabled w then Some (protection_indicator access)
    else None

-- the indicator for a forbidden access to word w in state s, None if the access is allowed
abbrev pub indicator_of_access : Machine → Access → ℕ → Option ℕ
indicator_of_access s access w = forbidden_by (word s BOUNDS) s.enabled access w
