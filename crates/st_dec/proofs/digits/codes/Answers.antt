use Rattle.st_dec.proofs.Common.{◌%◌, arith, lit<}
use Rattle.st_dec.proofs.LoopLemmas.{codes_left, all_left, codes_next, codes_done, digit_fits, digit_below}
use Rattle.st_dec.proofs.digits.codes.Goals as goal

pub loop-place-init : goal.loop-place-init
loop-place-init c = record {
  left = all_left (λ n. codes_left c.args.shape.now.byte n c.args.f.now.mag) _ _ c.digit_count-place-end.ensures.value;
  below = lit< tt;
}

pub overflow_add-codes : goal.overflow_add-codes
overflow_add-codes c =
    let fits = digit_fits 4 _ (c.loop-place.rest % 16) _ (omega arith) (omega arith) c.loop-place.invariant.below in
    omega arith

pub loop-place-preserved : goal.loop-place-preserved
loop-place-preserved c = record {
  left = codes_next _ _ _ _ _ _ c.requires.code c.loop-place-test.true (omega arith) c.loop-place.invariant.left;
  below = digit_below 4 _ (c.loop-place.rest % 16) _ (omega arith) (omega arith) c.loop-place.invariant.below;
}

pub returns : goal.returns
returns c = record { value = codes_done _ _ _ _ _ _ _ c.loop-place-test.false c.loop-place.invariant.left }
