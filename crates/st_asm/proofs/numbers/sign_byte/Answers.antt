use Rattle.st_asm.proofs.Common.{◌<◌, ◌-◌, arith}
use Rattle.st_asm.proofs.FieldLemmas.{sign-below}
use Rattle.st_asm.proofs.numbers.sign_byte.Goals as goal

pub returns-then-minus-clause-below : goal.returns-then-minus-clause-below
returns-then-minus-clause-below c =
    let within : c.min.result - 1 < c.args.byte = omega arith in
    sign-below c.args.byte (c.min.result - 1) within
