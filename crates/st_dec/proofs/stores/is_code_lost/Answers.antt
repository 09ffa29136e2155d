use Rattle.st_dec.proofs.Common.{sym, digit_count, last_digit_place}
use Rattle.st_dec.proofs.PartLemmas.{any_code-left}
use Rattle.st_dec.proofs.stores.is_code_lost.Goals as goal

pub returns : goal.returns
returns c =
    rw (c.exceeds.ensures, c.codes_from_place.ensures, c.digit_count.ensures.value)
    (sym (any_code-left (digit_count c.args.shape.now) (last_digit_place c.args.shape.now) c.args.acc.now.mag))
