use Rattle.st_dec.proofs.Common.{◌≡◌, ◌-◌, ◌%◌, ◌^◌, rules, zone_of, digit_count, last_digit_place, field_codes}
use Rattle.st_dec.proofs.PartLemmas.{field-below, length-padded}
use Rattle.st_dec.proofs.RecodeLemmas.{spread-joined}
use Rattle.st_dec.proofs.stores.stored_magnitude.Goals as goal

pub returns-clause-value : goal.returns-clause-value
returns-clause-value c =
    let zone : c.from-zone.result ≡ zone_of c.args.acc.now.sb % 2 ^ (c.args.shape.now.byte - 4) = search rules in
    rw (c.spread.ensures.value, zone)
    (spread-joined _ _ _ _ (field_codes c.args.acc.now c.args.shape.now) (field-below (digit_count c.args.shape.now) (last_digit_place c.args.shape.now) c.args.acc.now.mag) (length-padded (digit_count c.args.shape.now) _) c.field_codes.ensures)
