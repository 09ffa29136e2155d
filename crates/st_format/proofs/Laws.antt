-- Proofs of the laws of the two formats.
use Rattle.std.proofs.Common.{ap, if◌then◌else◌}
use Rattle.st_format.specs.Laws.{BitsSpellInstruction, InstructionKeepsBits}
use Rattle.st_format.proofs.RoundTrip.{spells-itself, full-shape}
use Rattle.st_format.proofs.Spelled.{first-instruction_of, second-instruction_of}
use Rattle.st_format.proofs.Shapes.{shape-instruction_of}

pub bits_spell_instruction : BitsSpellInstruction
bits_spell_instruction = record {
  instruction = spells-itself;
  length = λ v s is. ap (λ full. if full then 2 else 1) (full-shape v is);
}

pub instruction_keeps_bits : InstructionKeepsBits
instruction_keeps_bits = record {
  shape = shape-instruction_of;
  first = λ f s first_fits second_fits. first-instruction_of f s first_fits;
  second = λ f s first_fits second_fits. second-instruction_of f s second_fits;
}
