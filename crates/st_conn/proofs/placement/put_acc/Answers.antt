use Rattle.st_conn.proofs.Common.{◌≡◌, ℕ, ◌-◌, ◌*◌, ◌/◌, ◌%◌, ◌^◌, ◌<◌, cond, ltb, sym, ◌∙◌, ap, arith, bit_and, bit_or, bit_at, count_leading_zeros, same_from_decides, Decides-at, or_lt, and_le_l, mod_below, pow_pos, ones_shr, mod-eq_of_lt, num, num-bits, is_covered, accumulator_bits, inserted_at, is_one_lost}
use Rattle.st_conn.proofs.Weights.{by_weight-bits}
use Rattle.st_conn.proofs.Places.{bit_at-places, bit_at-put, Decides-room, Decides-past}
use Rattle.st_conn.proofs.placement.put_acc.Goals as goal

pub returns-clause-lost : goal.returns-clause-lost
returns-clause-lost c =
    ap (λ x. ltb (count_leading_zeros 128 x) c.from-2.result) c.from.ensures
    ∙ ap (λ k. ltb (count_leading_zeros 128 c.args.bits) k) c.from-2.ensures
    ∙ same_from_decides _ (is_one_lost c.args.offset c.args.bits)
    (Decides-room c.args.offset c.args.bits c.requires.offset c.ranges.bits.fits)
    (Decides-past c.args.offset c.args.bits c.ranges.bits.fits)

pub returns-clause-lost_where : goal.returns-clause-lost_where
returns-clause-lost_where c =
    Decides-at _ _ (returns-clause-lost c)
    (Decides-past c.args.offset c.args.bits c.ranges.bits.fits)

pub returns-clause-acc : goal.returns-clause-acc
unfolding accumulator_bits
returns-clause-acc c =
    let n = c.args.n in
    let offset = c.args.offset in
    let mask = (2 ^ 128 - 1) / 2 ^ (128 - n) * 2 ^ offset % 2 ^ 128 in
    let back : 128 - (128 - n) ≡ n = omega arith in
    let ones : mask ≡ (2 ^ n - 1) * 2 ^ offset % 2 ^ 128 =
    ap (λ m. m * 2 ^ offset % 2 ^ 128) (ones_shr 128 (128 - n) (omega arith) ∙ ap (λ k. 2 ^ k - 1) back) in
    let kept = bit_and c.args.acc (2 ^ 128 - 1 - mask) in
    let y = bit_or kept (c.args.bits * 2 ^ offset % 2 ^ 128) in
    let below : kept < 2 ^ 128 =
    omega (arith, and_le_l c.args.acc (2 ^ 128 - 1 - mask), c.ranges.acc.fits) in
    let size : y < 2 ^ 128 = or_lt 128 _ _ below (mod_below _ _ (pow_pos 128)) in
    ap (λ x. bit_or kept (x * 2 ^ offset % 2 ^ 128)) c.from-3.ensures
    ∙ sym
    (ap num
    (by_weight-bits
    (inserted_at c.args.acc offset c.args.bits n)
    y
    128
    (λ i h.
    bit_at-put c.args.acc offset c.args.bits n mask i
    (mod_below _ _ (pow_pos 128)) c.requires.fits h (ap (λ m. bit_at m i) ones ∙ bit_at-places offset n i h)))
    ∙ num-bits 128 y
    ∙ mod-eq_of_lt size)
