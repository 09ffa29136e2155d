use Rattle.st_dec.proofs.Common.{◌≤◌, ◌<◌, ◌^◌, ◌∙◌, arith, pow_mono, magnitude_bits, digit_count}
use Rattle.st_dec.proofs.ShapeLemmas.{count-few, magnitude-small}
use Rattle.st_dec.proofs.PartLemmas.{value-codes, field_value-fits}
use Rattle.st_dec.proofs.operand.field_value.Goals as goal

pub returns-clause-value : goal.returns-clause-value
returns-clause-value c =
    let few : digit_count c.args.shape.now ≤ 16 = count-few c.args.shape.now c.requires.shape in
    c.digits_value.ensures.value ∙
    value-codes c.args.shape.now.byte (digit_count c.args.shape.now) c.args.f.now.mag c.from.result (omega arith) (c.from.ensures ∙ c.codes.ensures.value)

below : (c : goal.After-digits_value) → c.digits_value.result < 2 ^ magnitude_bits c.args.shape.now
below c = rw (returns-clause-value c) (field_value-fits c.args.f.now c.args.shape.now c.requires.shape)

pub returns-clause-fits : goal.returns-clause-fits
returns-clause-fits c = below c

pub overflow_cast-result : goal.overflow_cast-result
overflow_cast-result c =
    let small : magnitude_bits c.args.shape.now ≤ 64 = magnitude-small c.args.shape.now c.requires.shape in
    let word : 2 ^ magnitude_bits c.args.shape.now ≤ 2 ^ 64 = pow_mono small in
    let fits = below c in
    omega arith
