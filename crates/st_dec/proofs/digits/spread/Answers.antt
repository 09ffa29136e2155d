use Rattle.st_dec.proofs.Common.{◌%◌, arith}
use Rattle.st_dec.proofs.LoopLemmas.{spread_next, spread_done, digit_fits, digit_below, byte_below, digit_room}
use Rattle.st_dec.proofs.digits.spread.Goals as goal

pub overflow_add-mag-in-loop-place : goal.overflow_add-mag-in-loop-place
overflow_add-mag-in-loop-place c =
    let byte = byte_below _ _ (c.loop-place.rest % 16) c.requires.shape.code c.requires.zone (omega arith) in
    let room = digit_room _ _ _ c.loop-place-test.true c.digit_count-place-end.ensures.bits in
    let fits = digit_fits _ _ _ _ byte room c.loop-place.invariant.below in
    omega arith

pub loop-place-preserved : goal.loop-place-preserved
loop-place-preserved c =
    let byte = byte_below _ _ (c.loop-place.rest % 16) c.requires.shape.code c.requires.zone (omega arith) in
    let room = digit_room _ _ _ c.loop-place-test.true c.digit_count-place-end.ensures.bits in
    record {
      left = spread_next _ _ _ _ _ _ _ byte c.loop-place-test.true room c.loop-place.invariant.left;
      below = digit_below _ _ _ _ byte room c.loop-place.invariant.below;
    }

pub returns-clause-value : goal.returns-clause-value
returns-clause-value c = spread_done _ _ _ _ _ _ _ _ c.loop-place-test.false c.loop-place.invariant.left
