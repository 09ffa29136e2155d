-- The checks before an instruction is executed. The first check that fails suppresses it.
--
-- Proved: by their `ensures` clauses these calls do what definitions here say: `operation_fault`
-- (faults.rt), `effective_instr` (faults.rt), `fault` (faults.rt), `forbidden_area` (faults.rt),
-- and others.
-- Read by: definitions in Plan, Looking of st_plain.
-- Laws: none names a definition of this file itself.
-- Change: the meaning is fixed by docs/machine.md, since the contracts of `st_top::stretch` and
-- `st_account::ledger` unfold to a definition here. The form is free, with the proofs that unfold
-- it.
use Rattle.std.specs.Prelude.{ℕ, zero, suc, ◌+◌, ◌/◌, Bool, true, false, nat_lt, if◌then◌else◌, List, [], ◌∷◌, Option, None, Some, unwrap_or}
use Rattle.std.specs.Option.{option_or}
use Rattle.st_bits.specs.declared.register.TheConstants.{FIRST_STORAGE_WORD}
use Rattle.st_bits.specs.declared.indicators.TheConstants.{OPERATION_INVALID, EXECUTE_EXCEPTION}
use Rattle.st_format.specs.declared.instruction.Instr.{Instr}
use Rattle.st_format.specs.declared.instruction.Instr.TheVariants.{Transfer}
use Rattle.st_format.specs.Formats.{is_valid}
use Rattle.st_state.specs.Boundary.{forbidden_by, address_invalid}
use Rattle.st_state.specs.declared.protection.Access.{Access}
use Rattle.st_state.specs.declared.protection.Access.TheVariants.{Read, Write}
use Rattle.st_prep.specs.declared.entries.Fetched.{Fetched}
use Rattle.st_prep.specs.declared.entries.Words.{Words}
use Rattle.st_prep.specs.declared.entries.ResolvedEntry.{ResolvedEntry}
use Rattle.st_prep.specs.Reading.{is_execute}

-- the instruction that is executed: the target of EX, or the instruction itself
unfoldable pub effective_instr : Fetched → Instr
effective_instr f = (unwrap_or f.target f.instr).instr

-- ---- forbidden words

-- the indicator that forbids the access to the first of n words that may not be accessed
unfoldable pub forbidden_run : ℕ → Bool → Access → ℕ → ℕ → Option ℕ
forbidden_run bounds enabled access w zero = None
forbidden_run bounds enabled access w (suc n) =
    option_or (forbidden_by bounds enabled access w) (forbidden_run bounds enabled access (w + 1) n)

unfoldable pub forbidden_words : ℕ → Bool → Access → Words → Option ℕ
forbidden_words bounds enabled access w =
    option_or (forbidden_run bounds enabled access w.first w.len)
    (forbidden_run bounds enabled access w.first2 w.len2)

unfoldable pub forbidden_side : ℕ → Bool → Option ℕ → Option ℕ
forbidden_side bounds enabled None = None
forbidden_side bounds enabled (Some w) = forbidden_by bounds enabled Read w

-- the access to the eight words of an order's area: the printer reads them, the reader writes them
abbrev pub area_access : Bool → Access
area_access false = Write
area_access true = Read

unfoldable pub forbidden_area : ℕ → Bool → Instr → ℕ → Option ℕ
forbidden_area bounds enabled (Transfer write address i count) e =
    if nat_lt (e / 64) FIRST_STORAGE_WORD then Some address_invalid
    else forbidden_run bounds enabled (area_access write) (e / 64) 8
forbidden_area bounds enabled _ e = None

-- ---- the checks

-- the fault of an instruction that the machine does not have
unfoldable pub operation_invalid : Instr → Option ℕ
operation_invalid instr = if is_valid instr then None else Some OPERATION_INVALID

-- the fault of EX if its target is EX
unfoldable pub execute_exception : Instr → Option ℕ
execute_exception instr = if is_execute instr then Some EXECUTE_EXCEPTION else None

-- the fault of the first check that fails
abbrev pub first_found : List (Option ℕ) → Option ℕ
first_found [] = None
first_found (check ∷ []) = check
first_found (check ∷ next ∷ checks) = option_or check (first_found (next ∷ checks))

-- the indicator of the first check that fails; a.fault is of its own words and those of EX's target
unfoldable pub fault : ResolvedEntry → ℕ → Bool → Option ℕ
fault a bounds enabled = first_found
    (a.fault
    ∷ operation_invalid a.instr
    ∷ execute_exception a.instr
    ∷ forbidden_side bounds enabled a.side
    ∷ forbidden_words bounds enabled Read a.reads
    ∷ forbidden_words bounds enabled Write a.writes
    ∷ forbidden_area bounds enabled a.instr a.e ∷ [])
