use Rattle.std.proofs.Common.{◌≡◌, ◌<◌, ◌≤◌, ◌-◌, ◌*◌, ◌%◌, ◌^◌, ◌+◌, arith, lit<, refl, subst}
use Rattle.std.proofs.Math.Nat.{pow-le-pow_right}
use Rattle.st_field.proofs.FieldLemmas.{joined_below, shifted_whole, magnitude_bits-signed}
use Rattle.st_field.proofs.fields.write_field.Goals as goal

below : (c : goal.After-byte_bits) → c.args.f.now.mag < 2 ^ (c.args.shape.now.length - c.args.shape.now.byte)
below c = subst (λ k. c.args.f.now.mag < 2 ^ k) (magnitude_bits-signed c.args.shape.now c.if-shape.false) c.requires.room.below

whole : (c : goal.After-byte_bits) → c.args.f.now.mag * 2 ^ c.args.shape.now.byte % 2 ^ 64 ≡ c.args.f.now.mag * 2 ^ c.args.shape.now.byte
whole c = shifted_whole _ _ _ (below c) (c.requires.shape.room c.if-shape.false) c.requires.shape.few

room : (c : goal.After-byte_bits) → c.args.f.now.mag * 2 ^ c.args.shape.now.byte % 2 ^ 64 + c.byte_bits.result < 2 ^ c.args.shape.now.length
room c = rw (whole c) (joined_below _ _ _ _ (below c) c.byte_bits.ensures.bound (c.requires.shape.room c.if-shape.false))

pub overflow_add-result : goal.overflow_add-result
overflow_add-result c =
    let all = room c in
    let word : 2 ^ c.args.shape.now.length ≤ 2 ^ 64 = pow-le-pow_right {n = 2} (lit< tt) c.requires.shape.few in
    omega arith

pub returns-else-shape-clause-bits : goal.returns-else-shape-clause-bits
returns-else-shape-clause-bits c = rw (c.if-shape.false, whole c, c.byte_bits.ensures.value) refl

pub returns-else-shape-clause-fits : goal.returns-else-shape-clause-fits
returns-else-shape-clause-fits c = room c
