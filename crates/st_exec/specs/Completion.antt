-- The completion of a prepared entry: its speculative change, its effect, and the program counter
-- after it.
--
-- Proved: by their `ensures` clauses these calls do what definitions here say: `complete`
-- (completing.rt), `complete_in` (completing.rt), `complete_with` (completing.rt), `count`
-- (completing.rt), and others.
-- Read by: definitions in Step, Predictions of st_segment, Levels of st_ring, Calls of st_ahead,
-- and others.
-- Laws: IndicatorsArePassedOver (specs/Laws.antt), OnlyIndicatorBranchesAreMispredicted
-- (specs/Laws.antt), EntriesLeaveWhatTheyDoNotWrite (specs/Laws.antt), PredictionsLeaveStates
-- (specs/Laws.antt), and others.
-- Change: the meaning is fixed by docs/machine.md, since the contracts of `st_top::stretch` and
-- `st_account::ledger` unfold to a definition here. The form is free, with the proofs that unfold
-- it.
use Rattle.std.specs.Prelude.{ℕ, ◌+◌, ◌%◌, Bool, false, not, ◌&&◌, ◌==◌, if◌then◌else◌, Option, None, Some}
use Rattle.st_bits.specs.declared.register.TheConstants.{FIRST_INDEX_WORD, INDICATORS}
use Rattle.st_bits.specs.Bits.{part}
use Rattle.st_format.specs.Formats.{bit_of}
use Rattle.st_format.specs.declared.instruction.Instr.{Instr}
use Rattle.st_format.specs.declared.instruction.Instr.TheVariants.{BitBranch, IndBranch}
use Rattle.st_state.specs.Machine.{Machine, word, state_with_store}
use Rattle.st_state.specs.Interrupts.{state_with_indicators}
use Rattle.st_prep.specs.declared.entries.IndexChange.{IndexChange}
use Rattle.st_prep.specs.declared.entries.Prepared.{Prepared}
use Rattle.st_prep.specs.Plan.{state_at_entry, plan}
use Rattle.st_exec.specs.Operand.{field_at}
use Rattle.st_exec.specs.Effect.{effect, carried_out}

-- ---- changes before the operands are read

-- the state after a change of an index word, if there is one
abbrev pub with_change : Option IndexChange → Machine → Machine
with_change None s = s
with_change (Some c) s = state_with_store s (FIRST_INDEX_WORD + c.number) c.word

-- the state after the speculative changes of an entry: of an index word, and then of indicators
unfoldable pub state_with_speculative_changes : Prepared → Machine → Machine
state_with_speculative_changes p s = state_with_indicators p.ind (with_change p.index s)

-- ---- the program counter

-- whether an instruction is a branch on a bit or on an indicator that is taken
unfoldable pub is_taken : Instr → ℕ → Machine → Bool
is_taken (BitBranch sense change address i second) e t = field_at t e 1 == bit_of sense
is_taken (IndBranch sense off address i second) e t =
    part (word t INDICATORS) (e % 64) 1 == bit_of sense
is_taken _ e t = false

-- the target of a branch on a bit or on an indicator; for other instructions, the following address
unfoldable pub target : Instr → ℕ → ℕ
target (BitBranch sense change address i second) following = second
target (IndBranch sense off address i second) following = second
target _ following = following

-- the program counter after an entry that is not suppressed, with t the state before its effect
abbrev pub counter : Prepared → Machine → ℕ
counter p t = if is_taken p.instr p.e t then target p.instr p.following else p.following

-- the state with one more completed instruction and the program counter h
abbrev pub state_counted_on : Machine → ℕ → Machine
state_counted_on s h = record s { ic = h; done = s.done + 1 }

-- ---- the whole completion

-- the state after the effect of an entry, if it is not suppressed, with the counter after it
unfoldable pub state_after_effect : Prepared → Machine → Machine
state_after_effect p t = if p.suppressed then state_counted_on t p.following
    else state_counted_on (carried_out (effect p t) t) (counter p t)

-- the state after the completion of an entry; the interrupt of a table instruction is taken first
unfoldable pub state_after_completion : Prepared → Machine → Machine
state_after_completion p s = state_after_effect p (state_with_speculative_changes p
    (state_at_entry p.place.table s))

-- the state after the execution of the next entry, or of the table instruction of an interrupt
abbrev pub state_after_execution : Option ℕ → Machine → Machine
state_after_execution table s = state_after_completion (plan s table) s

-- ---- the prediction along which the next entry is prepared

-- the state after an entry if its branch is predicted not taken; a serializing one is not predicted
unfoldable pub predicted_state : Prepared → Machine → Machine
predicted_state p s = if p.serial then state_after_completion p s
    else record (state_after_completion p s) { ic = p.following }

-- the predicted state after the next entry of a state, or the table instruction of an interrupt
abbrev pub prediction : Option ℕ → Machine → Machine
prediction table s = predicted_state (plan s table) s

-- whether an entry, neither serializing nor suppressed, is mispredicted: its branch is taken
unfoldable pub is_mispredicted : Prepared → Machine → Bool
is_mispredicted p s = not p.serial && not p.suppressed && is_taken p.instr p.e
    (state_with_speculative_changes p (state_at_entry p.place.table s))
