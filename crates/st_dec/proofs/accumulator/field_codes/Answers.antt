use Rattle.st_dec.proofs.Common.{sym, digit_count, last_digit_place}
use Rattle.st_dec.proofs.PartLemmas.{joined-field}
use Rattle.st_dec.proofs.accumulator.field_codes.Goals as goal

pub returns : goal.returns
returns c =
    rw (c.low_bits.ensures.value, c.codes_from_place.ensures, c.digit_count.ensures.value)
    (sym (joined-field (digit_count c.args.shape.now) (last_digit_place c.args.shape.now) c.args.acc.now.mag))
