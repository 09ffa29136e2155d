use Rattle.st_asm.proofs.Common.{◌*◌, ◌/◌, ap, ◌∙◌}
use Rattle.st_asm.proofs.FieldLemmas.{digits-whole}
use Rattle.st_asm.proofs.numbers.digit_count.Goals as goal

pub returns-clause-whole : goal.returns-clause-whole
returns-clause-whole c =
    let form = c.args.form in
    ap (λ m. form.byte * (m / form.byte)) c.magnitude_bits.ensures.bits
    ∙ digits-whole form c.requires.form c.requires.decimal
