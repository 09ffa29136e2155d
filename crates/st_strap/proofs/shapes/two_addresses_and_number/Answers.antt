use Rattle.st_strap.proofs.Common.{◌∙◌, ap, sym, List, ℕ, false, spot, expression, plain_number, followed, two}
use Rattle.st_strap.proofs.FieldLemmas.{texts_first, joined}
use Rattle.st_strap.proofs.shapes.two_addresses_and_number.Goals as goal

pub returns-in-len1-up : goal.returns-in-len1-up
unfolding followed
returns-in-len1-up c =
    let first = texts_first c.args.fields.now c.at-item.result c.in-len1-up.len_at_least c.at-item.is in
    joined _ _ _ _ _ c.both.ensures c.spot.ensures c.address_and_number.ensures
    ∙ sym (ap (λ (fields : List (List ℕ)). followed (spot false) (two expression plain_number) fields) first)
