use Rattle.st_asm.proofs.Common.{◌+◌, ◌*◌, ◌^◌, Bool, ap, sym, ◌∙◌, arith, if◌then◌else◌, field_bits_of, magnitude, sign_byte_of}
use Rattle.st_asm.proofs.FieldLemmas.{signed-parts}
use Rattle.st_asm.proofs.numbers.field_of.Goals as goal

pub overflow_add-result : goal.overflow_add-result
overflow_add-result c =
    let parts = signed-parts c.args.form c.magnitude-magnitude.result c.sign_byte.result c.requires.form c.if-form.false
    c.magnitude-magnitude.ensures.below c.sign_byte.ensures.below in
    omega (arith, parts.0, parts.2)

pub returns-else-form-clause-bits : goal.returns-else-form-clause-bits
unfolding field_bits_of
returns-else-form-clause-bits c =
    let parts = signed-parts c.args.form c.magnitude-magnitude.result c.sign_byte.result c.requires.form c.if-form.false
    c.magnitude-magnitude.ensures.below c.sign_byte.ensures.below in
    parts.0
    ∙ (ap (λ m. m * 2 ^ c.args.form.byte + c.sign_byte.result) c.magnitude-magnitude.ensures.value
    ∙ (ap (λ s. magnitude c.args.form c.args.number * 2 ^ c.args.form.byte + s) c.sign_byte.ensures.value
    ∙ sym (ap (λ (b : Bool). if b then magnitude c.args.form c.args.number
    else magnitude c.args.form c.args.number * 2 ^ c.args.form.byte + sign_byte_of c.args.form.byte c.args.minus) c.if-form.false)))

pub returns-else-form-clause-below : goal.returns-else-form-clause-below
returns-else-form-clause-below c =
    let parts = signed-parts c.args.form c.magnitude-magnitude.result c.sign_byte.result c.requires.form c.if-form.false
    c.magnitude-magnitude.ensures.below c.sign_byte.ensures.below in
    omega (arith, parts.0, parts.1)
