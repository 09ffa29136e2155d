use Rattle.std.proofs.Common.{◌≡◌, ◌-◌, ◌/◌, ◌%◌, ◌^◌, rules}
use Rattle.st_field.specs.Fields.{sign_byte}
use Rattle.st_field.proofs.FieldLemmas.{sign_byte-cut}
use Rattle.st_field.proofs.fields.byte_bits.Goals as goal

pub returns-clause-bound : goal.returns-clause-bound
returns-clause-bound c =
    let cut : c.from.result ≡ sign_byte (c.args.f.now.zone % 2 ^ (c.args.byte - 4)) c.args.f.now.negative c.args.f.now.flags / 2 ^ (4 - c.args.byte) = search rules in
    rw cut (sign_byte-cut _ _ _ _ c.requires.flags c.requires.some c.requires.small)
