-- The step that a call makes is the next one, and counts as one instruction.
use Rattle.st_exec.proofs.Common.{◌≡◌, ◌+◌, false, Machine, plan}
use Rattle.st_exec.specs.Step.{interrupt, step, rests, IsStep}
use Rattle.st_exec.proofs.Unchanged.{completed-done}
use Rattle.st_exec.specs.declared.step.Step.{Step}
use Rattle.st_exec.specs.declared.step.Step.TheVariants.{Plain, Interrupt, Waits}

-- the state after a step is the state after the next step
pub step_made : (s t : Machine) (r : Step) → rests s ≡ false → IsStep s t r → t ≡ step s
step_made s t Plain h made = made.2
step_made s t (Interrupt i) h made = made.2
step_made s t Waits h made = absurd (cc)

-- a step counts as one instruction
pub step-done : (s : Machine) → (step s).done ≡ s.done + 1
unfolding step
step-done s = completed-done (plan s (interrupt s)) s
