-- The decision between two entries: whether the run continues, and whether the segment ends.
--
-- Proved: by their `ensures` clauses these calls do what definitions here say: `decide`
-- (leaving.rt).
-- Read by: definitions in Leaving.
-- Laws: none names a definition of this file itself.
-- Change: no page fixes these definitions, since no contract of a program unfolds to them; they
-- change together with the clauses, definitions and laws that name them. docs/machine.md describes
-- the subject.
use Rattle.std.specs.Prelude.{ℕ, ◌≡◌, ◌≢◌, Bool, true, false, ◌||◌, is_some, None}
use Rattle.st_state.specs.Machine.{Machine}
use Rattle.st_exec.specs.Step.{rests}
use Rattle.st_ahead.specs.Overlap.{Overlap, interrupt_due}
use Rattle.st_ahead.specs.Calls.{run_ended, machine_after_settling}
use Rattle.st_run.specs.declared.run_phase.RunPhase.{RunPhase}
use Rattle.st_run.specs.declared.run_phase.RunPhase.TheVariants.{Before, AtEnd, Over}
use Rattle.st_run.specs.declared.leaving.Decided.{Decided}

-- the decision d in state s: the run continues, and then going holds; or its last segment ends, at
-- rest or with the budget used up, and then ending holds
abbrev pub IsDecidedBy : RunPhase → ℕ → Machine → Decided → Type 0 → Type 0 → Type 0
IsDecidedBy Before left s d going ending = (left ≢ 0) × (rests s ≡ false) × going
IsDecidedBy (AtEnd resting) left s d going ending =
    (resting ≡ rests s) × (resting ≡ false → left ≡ 0) × (d.ends ≡ true) × (d.taken ≡ None) × ending
IsDecidedBy Over left s d going ending = ⊥

-- the machine after the decision: it continues with the decision about interrupts, or its last
-- segment ends
abbrev pub IsChoice : RunPhase → ℕ → Bool → Overlap → Decided → Overlap → Type 0
IsChoice turn left over old d new = IsDecidedBy turn left old.state d
    ((new ≡ machine_after_settling old) × (d.taken ≡ interrupt_due old)
    × (d.ends ≡ (is_some old.mispredicted || over || is_some (interrupt_due old))))
    (new ≡ run_ended old)
