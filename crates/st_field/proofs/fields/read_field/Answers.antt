use Rattle.std.proofs.Common.{◌≡◌, ◌*◌, ◌%◌, ◌^◌, refl, arith}
use Rattle.st_field.specs.Fields.{last_byte}
use Rattle.st_field.proofs.FieldLemmas.{front_below, field_bits-field_of, magnitude_bits-signed, last_byte-shifted}
use Rattle.st_field.proofs.fields.read_field.Goals as goal

pub returns-clause-parts : goal.returns-clause-parts
returns-clause-parts c =
    let b = c.args.shape.now.byte in
    let sign : c.args.bits % (1 * 2 ^ b % 2 ^ 64) * 2 ^ c.saturating_sub.result % 256 ≡ last_byte c.args.bits b =
    rw c.saturating_sub.ensures (last_byte-shifted c.args.bits b c.requires.shape.some_byte c.requires.shape.small_byte) in
    rw (c.is_minus.ensures, sign, c.if-shape.false) refl

pub returns-clause-room : goal.returns-clause-room
returns-clause-room c =
    record {
      below = rw (magnitude_bits-signed c.args.shape.now c.if-shape.false) (front_below _ _ _ c.requires.fits (c.requires.shape.room c.if-shape.false));
      three_flags = omega arith;
      four_zone_bits = omega arith;
    }

pub returns-clause-same : goal.returns-clause-same
returns-clause-same c =
    let b = c.args.shape.now.byte in
    let sign : c.args.bits % (1 * 2 ^ b % 2 ^ 64) * 2 ^ c.saturating_sub.result % 256 ≡ last_byte c.args.bits b =
    rw c.saturating_sub.ensures (last_byte-shifted c.args.bits b c.requires.shape.some_byte c.requires.shape.small_byte) in
    let law = field_bits-field_of c.args.bits c.args.shape.now c.requires.shape in
    rw (c.is_minus.ensures, sign, c.if-shape.false) (rw c.if-shape.false at law)
