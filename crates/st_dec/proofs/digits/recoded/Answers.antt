use Rattle.st_dec.proofs.Common.{◌≤◌, ◌<◌, ◌+◌, ◌-◌, ◌^◌, arith, subst, pow_mono, magnitude_bits}
use Rattle.st_dec.proofs.ShapeLemmas.{digits-whole, magnitude-small}
use Rattle.st_dec.proofs.PartLemmas.{magnitude-room}
use Rattle.st_dec.proofs.RecodeLemmas.{old_codes-le, codes_exchanged, recoded_fits}
use Rattle.st_dec.proofs.digits.recoded.Goals as goal

pub overflow_sub-zones : goal.overflow_sub-zones
overflow_sub-zones c =
    old_codes-le _ _ _ _ _ (magnitude-room _ c.args.shape.now c.requires.shape c.requires.room.below) c.codes.ensures.value c.spread.ensures.value

pub returns-clause-value : goal.returns-clause-value
returns-clause-value c =
    codes_exchanged _ _ _ _ _ _ _ (magnitude-room _ c.args.shape.now c.requires.shape c.requires.room.below) c.codes.ensures.value c.spread.ensures.value c.spread-2.ensures.value

below : (c : goal.After-spread-2) → c.args.f.now.mag - c.spread.result + c.spread-2.result < 2 ^ magnitude_bits c.args.shape.now
below c =
    subst (λ k. c.args.f.now.mag - c.spread.result + c.spread-2.result < 2 ^ k) (digits-whole c.args.shape.now c.requires.shape)
    (rw (returns-clause-value c) (recoded_fits _ _ _ _ c.requires.shape.code))

pub returns-clause-fits : goal.returns-clause-fits
returns-clause-fits c = below c

pub overflow_add-result : goal.overflow_add-result
overflow_add-result c =
    let small : magnitude_bits c.args.shape.now ≤ 64 = magnitude-small c.args.shape.now c.requires.shape in
    let word : 2 ^ magnitude_bits c.args.shape.now ≤ 2 ^ 64 = pow_mono small in
    let fits = below c in
    omega arith
