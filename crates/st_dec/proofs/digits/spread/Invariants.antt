use Rattle.st_dec.proofs.Common.{◌≡◌, ◌+◌, ◌-◌, ◌*◌, ◌^◌, ◌<◌, digit_count}
use Rattle.st_dec.proofs.LoopLemmas.{spread_left}
use Rattle.st_dec.proofs.digits.spread.Given as goal

abbrev pub invariant-loop-place : goal.invariant-loop-place
invariant-loop-place l = record {
  left : l.mag + 2 ^ (l.shape.byte * l.place) * spread_left l.shape.byte l.zone (l.place-end - l.place) l.rest ≡ spread_left l.shape.byte l.zone (digit_count l.shape) l.codes;
  below : l.mag < 2 ^ (l.shape.byte * l.place);
}
