-- Transfers between storage and the devices: consecutive words of storage, and the effect of an
-- order on the state.
--
-- Proved: by their `ensures` clauses these calls do what definitions here say: `print_out`
-- (transfers.rt), `read_in` (transfers.rt), `store_card` (transfers.rt), `words_at` (transfers.rt),
-- and others.
-- Read by: definitions in Run of st_run, Calls of st_ahead, Openings of st_refine, Serving of
-- st_run.
-- Laws: OrdersArePassedOver (specs/Laws.antt), UndoingPassesRegistersOver (specs/Laws.antt of
-- st_back).
-- Change: the meaning is fixed by docs/machine.md, since the contracts of `st_top::stretch` and
-- `st_account::ledger` unfold to a definition here. The form is free, with the proofs that unfold
-- it.
use Rattle.std.specs.Prelude.{ℕ, zero, suc, ◌+◌, List, [], ◌∷◌, Option, None, Some}
use Rattle.st_bits.specs.declared.indicators.TheConstants.{END_EXCEPTION, END_OF_OPERATION}
use Rattle.st_state.specs.Machine.{Machine, word, state_with_store}
use Rattle.st_state.specs.Interrupts.{state_with_signal}

-- the state after a list of words is written to storage from word w
unfoldable pub all_stored : Machine → ℕ → List ℕ → Machine
all_stored s w [] = s
all_stored s w (x ∷ xs) = all_stored (state_with_store s w x) (w + 1) xs

-- the n words of storage from word w
unfoldable pub words_from : Machine → ℕ → ℕ → List ℕ
words_from s w zero = []
words_from s w (suc n) = word s w ∷ words_from s (w + 1) n

-- the state after the reader's order: the card is in its area and EOP on; without a card, EE is on
abbrev pub read_in : Machine → ℕ → Option (List ℕ) → Machine
read_in s w None = state_with_signal (record s { reader = None }) END_EXCEPTION
read_in s w (Some card) =
    state_with_signal (all_stored (record s { reader = None }) w card) END_OF_OPERATION

-- the state after the printer's order takes effect: the order is removed and EOP is turned on
abbrev pub printed_out : Machine → Machine
printed_out s = state_with_signal (record s { printer = None }) END_OF_OPERATION
