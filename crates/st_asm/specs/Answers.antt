-- The errors of passes and of the assembler, related to the specified results.
--
-- Proved: by their `ensures` clauses these calls do what definitions here say: `assemble`
-- (assembling.rt), `assemble_cards` (assembling.rt), `add_card` (forming.rt), `add_control`
-- (forming.rt), and others.
-- Laws: none names a definition of this file itself.
-- Change: no page fixes these definitions, since no contract of a program unfolds to them; they
-- change together with the clauses, definitions and laws that name them. docs/strap.md describes
-- the subject.
use Rattle.std.specs.Prelude.{◌≡◌, ℕ, ⊤, Result, Err}
use Rattle.st_card.specs.declared.faults.Fault.{Fault}
use Rattle.st_asm.specs.Pass.{Refusal}
use Rattle.st_asm.specs.declared.stop.PassStop.{PassStop}
use Rattle.st_asm.specs.declared.stop.PassStop.TheVariants.{Faulty, NoMemory}
use Rattle.st_asm.specs.declared.stop.AsmError.{AsmError}
use Rattle.st_asm.specs.declared.stop.AsmError.TheVariants.{Refused, NoMemory as OutOfMemory}

-- why a pass stops at a card: the specified result is this fault, or memory ran out
abbrev pub Stops : {A : Type 0} → Result A Fault → PassStop → Type 0
Stops wanted (Faulty fault) = wanted ≡ Err fault
Stops wanted NoMemory = ⊤

-- why a job is not assembled: the specified result is this refusal, or memory ran out
abbrev pub Explains : {A : Type 0} → Result A Refusal → AsmError → Type 0
Explains wanted (Refused card fault) = wanted ≡ Err (record { card = card; fault = fault })
Explains wanted OutOfMemory = ⊤

-- the error of a pass that stops at card n
abbrev pub stopped_at : ℕ → PassStop → AsmError
stopped_at card (Faulty fault) = Refused card fault
stopped_at card NoMemory = OutOfMemory
