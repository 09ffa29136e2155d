use Rattle.st_dec.proofs.Common.{◌/◌, sym, arith}
use Rattle.st_dec.proofs.PartLemmas.{joined-from}
use Rattle.st_dec.proofs.accumulator.codes_from_place.Goals as goal

pub returns : goal.returns
returns c = rw c.digit_place.ensures.value (sym (joined-from (c.args.shape.now.offset / 4) c.args.acc.now.mag (omega arith)))
