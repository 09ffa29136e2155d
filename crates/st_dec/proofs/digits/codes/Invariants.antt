use Rattle.st_dec.proofs.Common.{◌≡◌, ◌+◌, ◌-◌, ◌*◌, ◌^◌, ◌<◌, number_of_bytes, codes}
use Rattle.st_dec.proofs.LoopLemmas.{codes_left}
use Rattle.st_dec.proofs.digits.codes.Given as goal

abbrev pub invariant-loop-place : goal.invariant-loop-place
invariant-loop-place l = record {
  left : l.codes + 2 ^ (4 * l.place) * codes_left l.shape.byte (l.place-end - l.place) l.rest ≡ number_of_bytes 4 (codes l.f l.shape);
  below : l.codes < 2 ^ (4 * l.place);
}
