-- Indicators: indicator n is bit n of the indicator register, and bit n of the mask register is its
-- mask bit.
--
-- Proved: by their `ensures` clauses these calls do what definitions here say: `leftmost`
-- (indicators.rt), `turned` (indicators.rt), `apply` (lib.rt), `pending` (lib.rt), and others.
-- Read by: definitions in Effect of st_exec, Plan of st_prep, Completion of st_exec, Outcome of
-- st_exec, and others.
-- Laws: OrdersArePassedOver (specs/Laws.antt of st_exec), UndoingPassesRegistersOver
-- (specs/Laws.antt of st_back).
-- Change: the meaning is fixed by docs/machine.md, since the contracts of `st_top::stretch` and
-- `st_account::ledger` unfold to a definition here. The form is free, with the proofs that unfold
-- it.
use Rattle.std.specs.Prelude.{ℕ, zero, suc, ◌+◌, ◌*◌, ◌^◌, Bool, ◌==◌, ◌&&◌, if◌then◌else◌, Option, None, Some}
use Rattle.std.specs.Int.{bit_at}
use Rattle.st_bits.specs.declared.storage.Ind.{Ind}
use Rattle.st_bits.specs.declared.register.TheConstants.{INDICATORS, MASK}
use Rattle.st_bits.specs.Indicators.{indicator, is_on}
use Rattle.st_state.specs.Machine.{Machine, word, with_word}

-- an indicator after an update: 1 if its bit in on is one, else 0 if its bit in off is one
abbrev pub turned_bit : ℕ → ℕ → ℕ → ℕ
turned_bit on off was = if on == 1 then 1 else if off == 1 then 0 else was

-- the last n indicators of the word x after an update
unfoldable pub indicator_word : ℕ → ℕ → ℕ → ℕ → ℕ
indicator_word zero on off x = 0
indicator_word (suc n) on off x = turned_bit (bit_at on n) (bit_at off n) (bit_at x n) * 2 ^ n
    + indicator_word n on off x

-- the state after an update of the indicators; an indicator that is in both words is on
abbrev pub state_with_indicators : Ind → Machine → Machine
state_with_indicators ind s = with_word s INDICATORS (indicator_word 64 ind.on ind.off
    (word s INDICATORS))

-- the state after a signal turns indicator i on
abbrev pub state_with_signal : Machine → ℕ → Machine
state_with_signal s i = state_with_indicators (record { on = indicator i; off = 0 }) s

-- whether indicator n is pending: it is on and its mask bit is one
abbrev pub is_pending : ℕ → ℕ → ℕ → Bool
is_pending indicators mask n = is_on indicators n && is_on mask n

-- the first of the n numbers from i that passes the test, None if there is none
unfoldable pub first_from : (ℕ → Bool) → ℕ → ℕ → Option ℕ
first_from p i zero = None
first_from p i (suc n) = if p i then Some i else first_from p (i + 1) n

-- the leftmost pending indicator of a state, None if there is none
abbrev pub pending : Machine → Option ℕ
pending s = first_from (is_pending (word s INDICATORS) (word s MASK)) 0 64
