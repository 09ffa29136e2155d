-- Laws of the two formats, which hold for all bits.
--
-- Proved: each law has its lemma in proofs/Laws.antt, with its name in small letters.
-- Claimed: docs/CLAIMS.md names BitsSpellInstruction, InstructionKeepsBits.
-- Change: docs/promises.txt lists each law, and the gate compares the list with the laws.
use Rattle.std.specs.Prelude.{ℕ, ◌≡◌, ◌^◌, ◌<◌, Some, None, if◌then◌else◌}
use Rattle.st_format.specs.declared.instruction.Instr.{Instr}
use Rattle.st_format.specs.Halves.{is_full}
use Rattle.st_format.specs.Formats.{instruction_of, first_half, second_half, halves_of, reread, IsShape}

-- The encoding of an instruction decodes to that instruction with its length. The half-word that
-- follows a half-word instruction has no effect.
pub record BitsSpellInstruction : Type 0 where
  pub instruction : (v : Instr) (s : ℕ) → IsShape v → (reread v s).instr ≡ v
  pub length : (v : Instr) (s : ℕ) → IsShape v → (reread v s).halves ≡ halves_of v

-- The instruction that bits decode to is encoded in those bits, so different bits decode to
-- different instructions.
pub record InstructionKeepsBits : Type 0 where
  pub shape : (f s : ℕ) → f < 2 ^ 32 → s < 2 ^ 32 → IsShape (instruction_of f s)
  pub first : (f s : ℕ) → f < 2 ^ 32 → s < 2 ^ 32 → first_half (instruction_of f s) ≡ f
  pub second : (f s : ℕ) → f < 2 ^ 32 → s < 2 ^ 32 →
      second_half (instruction_of f s) ≡ (if is_full f then Some s else None)
