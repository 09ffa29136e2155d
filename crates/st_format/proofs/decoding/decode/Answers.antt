use Rattle.st_format.proofs.Common.{ap, ◌∙◌, arith, first_half, second_half, is_no_instruction}
use Rattle.st_format.specs.declared.instruction.Decoded.{Decoded}
use Rattle.st_format.proofs.Spelled.{first-instruction_of, second-instruction_of}
use Rattle.st_format.proofs.Shapes.{none-instruction_of}
use Rattle.st_format.proofs.decoding.decode.Goals as goal

pub returns-clause-invalid : goal.returns-clause-invalid
returns-clause-invalid c =
    ap (λ (d : Decoded). is_no_instruction d.instr) c.decode_as.ensures.value
    ∙ none-instruction_of c.args.first c.args.second

pub returns-clause-first : goal.returns-clause-first
returns-clause-first c =
    ap (λ (d : Decoded). first_half d.instr) c.decode_as.ensures.value
    ∙ first-instruction_of c.args.first c.args.second (omega arith)

pub returns-clause-second : goal.returns-clause-second
returns-clause-second c =
    ap (λ (d : Decoded). second_half d.instr) c.decode_as.ensures.value
    ∙ second-instruction_of c.args.first c.args.second (omega arith)
