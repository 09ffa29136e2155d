use Rattle.st_asm.proofs.Common.{◌+◌, ◌-◌, ◌*◌, ◌^◌, ◌%◌, ap, sym, ◌∙◌, arith}
use Rattle.st_asm.proofs.FieldLemmas.{joined-parts, more-digits, packed-more, packed-none, digit-below}
use Rattle.st_asm.proofs.numbers.+packed.Goals as goal

pub returns-then-count-eq0-clause-value : goal.returns-then-count-eq0-clause-value
returns-then-count-eq0-clause-value t c = sym (packed-none c.args.byte c.args.count c.args.number c.if-count-eq0.true)

pub overflow_add-result : goal.overflow_add-result
overflow_add-result t c =
    let parts = joined-parts c.packed.result (c.args.number % 10) (c.args.byte * (c.args.count - 1)) c.args.byte
    (c.args.byte * c.args.count) c.packed.ensures.below (digit-below c.args.byte c.args.number c.requires.some)
    (more-digits c.args.byte c.args.count c.if-count-eq0.false) c.requires.room in
    omega (arith, parts.0, parts.2)

pub returns-clause-value : goal.returns-clause-value
returns-clause-value t c =
    let parts = joined-parts c.packed.result (c.args.number % 10) (c.args.byte * (c.args.count - 1)) c.args.byte
    (c.args.byte * c.args.count) c.packed.ensures.below (digit-below c.args.byte c.args.number c.requires.some)
    (more-digits c.args.byte c.args.count c.if-count-eq0.false) c.requires.room in
    parts.0
    ∙ (ap (λ h. h * 2 ^ c.args.byte + c.args.number % 10) c.packed.ensures.value
    ∙ sym (packed-more c.args.byte c.args.count c.args.number c.if-count-eq0.false))

pub returns-clause-below : goal.returns-clause-below
returns-clause-below t c =
    let parts = joined-parts c.packed.result (c.args.number % 10) (c.args.byte * (c.args.count - 1)) c.args.byte
    (c.args.byte * c.args.count) c.packed.ensures.below (digit-below c.args.byte c.args.number c.requires.some)
    (more-digits c.args.byte c.args.count c.if-count-eq0.false) c.requires.room in
    omega (arith, parts.0, parts.1)
