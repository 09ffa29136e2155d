use Rattle.st_dec.proofs.Common.{◌∙◌, last_digit_place}
use Rattle.st_dec.proofs.PartLemmas.{value_small, value-from}
use Rattle.st_dec.proofs.accumulator.value_from_place.Goals as goal

pub returns-clause-value : goal.returns-clause-value
returns-clause-value c =
    c.digits_value.ensures.value ∙ value-from (last_digit_place c.args.shape.now) c.args.acc.now.mag c.codes_from_place.result c.codes_from_place.ensures

pub returns-clause-bound : goal.returns-clause-bound
returns-clause-bound c = rw c.digits_value.ensures.value (value_small c.codes_from_place.result)
