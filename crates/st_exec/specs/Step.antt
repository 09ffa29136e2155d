-- One step of the machine: the instruction at the program counter, or an interrupt.
--
-- Proved: by their `ensures` clauses these calls do what definitions here say: `one_kept`
-- (kept.rt), `interrupt` (step.rt), `is_at_rest` (step.rt), `next_address` (step.rt), and others.
-- Read by: definitions in Trails, Run of st_run, TimedRun of st_run, Text of st_account, and
-- others.
-- Laws: CompletionsAreSteps (specs/Laws.antt of st_refine), LevelsAreUnwound (specs/Laws.antt of
-- st_refine), BackUndoesForth (specs/Laws.antt of st_back), OpeningsFollow (specs/Laws.antt of
-- st_refine), and others.
-- Change: the meaning is fixed by docs/machine.md, since the contracts of `st_top::stretch` and
-- `st_account::ledger` unfold to a definition here. The form is free, with the proofs that unfold
-- it.
use Rattle.std.specs.Prelude.{ℕ, ◌≡◌, Bool, true, false, ◌&&◌, is_none, if◌then◌else◌, Option, None, Some}
use Rattle.st_state.specs.Machine.{Machine}
use Rattle.st_state.specs.Interrupts.{pending}
use Rattle.st_prep.specs.Fetch.{address_by}
use Rattle.st_exec.specs.Completion.{state_after_execution}
use Rattle.st_exec.specs.declared.step.Step.{Step}
use Rattle.st_exec.specs.declared.step.Step.TheVariants.{Plain, Interrupt, Waits}

-- the indicator that interrupts before the next instruction, None if there is none
abbrev pub interrupt : Machine → Option ℕ
interrupt s = if s.enabled then pending s else None

-- the state after the next step: the next instruction, or the table instruction of an interrupt
unfoldable pub step : Machine → Machine
step s = state_after_execution (interrupt s) s

-- the address of the instruction that the next step executes
unfoldable pub address : Machine → ℕ
address s = address_by (interrupt s) s

-- whether the machine waits and no indicator is pending
abbrev pub rests : Machine → Bool
rests s = s.waiting && is_none (pending s)

-- the meaning of each result of a call of `one`, by the states before and after it
abbrev pub IsStep : Machine → Machine → Step → Type 0
IsStep old new Waits = (rests old ≡ true) × (new ≡ old)
IsStep old new Plain = (rests old ≡ false) × (interrupt old ≡ None) × (new ≡ step old)
IsStep old new (Interrupt i) = (rests old ≡ false) × (interrupt old ≡ Some i) × (new ≡ step old)
