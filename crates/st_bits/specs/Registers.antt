-- The register words, addresses 0 to 31, and which of their bits are fixed.
--
-- Proved: by their `ensures` clauses these calls do what definitions here say: `fix_register`
-- (register.rt), `fixed_word` (lib.rt of st_state).
-- Read by: definitions in Machine of st_state.
-- Laws: CountsAgree (specs/Laws.antt of st_laws).
-- Change: the meaning is fixed by docs/machine.md, since the contracts of `st_top::stretch` and
-- `st_account::ledger` unfold to a definition here. The form is free, with the proofs that unfold
-- it.
use Rattle.std.specs.Prelude.{ℕ, ◌+◌, ◌-◌, ◌*◌, ◌^◌, Bool, List, [], ◌∷◌, ◌==◌, ◌||◌, if◌then◌else◌}
use Rattle.st_bits.specs.Bits.{kept_bits}
use Rattle.st_bits.specs.declared.register.TheConstants.{ZERO, INTERRUPT_ADDRESS, BOUNDS, COUNTS, SIGN_BYTE, MASK}

-- whether word w is a register that always reads zero
abbrev pub reads_zero : ℕ → Bool
reads_zero w = w == ZERO || w == 1 || w == 4 || w == 5 || w == 6

-- the contents of word w after x is written to it: fixed bits keep their value
unfoldable pub register_word : ℕ → ℕ → ℕ
register_word w x = if reads_zero w then 0
    else if w == INTERRUPT_ADDRESS then kept_bits x 0 18
    else if w == BOUNDS then kept_bits x 0 18 + kept_bits x 32 18 + kept_bits x 57 1
    else if w == COUNTS then kept_bits x 17 7 + kept_bits x 44 7
    else if w == SIGN_BYTE then kept_bits x 0 8
    else if w == MASK then (2 ^ 20 - 1) * 2 ^ 44 + kept_bits x 20 28
    else x

-- the contents of consecutive words, the first at address w, after the list is written to them
unfoldable pub fixed_from : ℕ → List ℕ → List ℕ
fixed_from w [] = []
fixed_from w (x ∷ xs) = register_word w x ∷ fixed_from (w + 1) xs
