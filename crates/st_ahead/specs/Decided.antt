-- The decision after a tick.
--
-- Proved: by their `ensures` clauses these calls do what definitions here say: `decision`
-- (machine.rt).
-- Laws: none names a definition of this file itself.
-- Change: no page fixes these definitions, since no contract of a program unfolds to them; they
-- change together with the clauses, definitions and laws that name them. docs/inside.md describes
-- the subject.
use Rattle.std.specs.Prelude.{◌≡◌, true, false, None, Some, is_some, ◌<◌}
use Rattle.st_exec.specs.Step.{rests}
use Rattle.st_ahead.specs.Overlap.{Overlap, interrupt_due}
use Rattle.st_ahead.specs.Calls.{MayServe}
use Rattle.st_ahead.specs.Inside.{Continues}
use Rattle.st_ahead.specs.declared.phase.Decision.{Decision}
use Rattle.st_ahead.specs.declared.phase.Decision.TheVariants.{Interrupt, Waits, Mispredicted, Goes}

-- a pending interrupt comes first, then a wait, then a mispredicted branch; otherwise the machine
-- continues. All but the last end the segment, after a completion
abbrev pub IsDecision : Overlap → Decision → Type 0
IsDecision m (Interrupt i) = (interrupt_due m ≡ Some i) × (i < 64) × MayServe m
IsDecision m Waits = (interrupt_due m ≡ None) × (rests m.state ≡ true) × MayServe m
IsDecision m Mispredicted = (interrupt_due m ≡ None) × (rests m.state ≡ false)
    × (is_some m.mispredicted ≡ true) × MayServe m
IsDecision m Goes = Continues m
