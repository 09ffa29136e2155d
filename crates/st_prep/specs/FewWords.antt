-- Words in one short run, and the instructions that may use more.
--
-- Proved: by their `ensures` clauses these calls do what definitions here say: `is_transmission`
-- (slots.rt of st_ring).
-- Read by: definitions in Slots of st_ring.
-- Laws: OperandsAreFew (specs/Laws.antt), LevelsAreLent (specs/Laws.antt of st_refine).
-- Change: no page fixes these definitions, since no contract of a program unfolds to them; they
-- change together with the clauses, definitions and laws that name them. docs/machine.md describes
-- the subject.
use Rattle.std.specs.Prelude.{◌≡◌, ◌≤◌, Bool, true, false}
use Rattle.st_format.specs.declared.instruction.Instr.{Instr}
use Rattle.st_format.specs.declared.instruction.Instr.TheVariants.{Move}
use Rattle.st_prep.specs.declared.entries.Words.{Words}

-- whether an instruction is T or SWAP
abbrev pub is_transmission : Instr → Bool
is_transmission (Move swap address i second count) = true
is_transmission _ = false

-- at most two words, in one run
pub record AreFew (w : Words) : Type 0 where
  pub few : w.len ≤ 2
  pub one_run : w.len2 ≡ 0
