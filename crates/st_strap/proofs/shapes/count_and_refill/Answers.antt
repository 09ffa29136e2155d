use Rattle.st_strap.proofs.Common.{◌∙◌, ap, sym, List, ℕ, expression, plain_number, followed, with_number}
use Rattle.st_strap.proofs.FieldLemmas.{texts_first, joined}
use Rattle.st_strap.proofs.shapes.count_and_refill.Goals as goal

pub returns-in-len1-up : goal.returns-in-len1-up
unfolding followed
returns-in-len1-up c =
    let first = texts_first c.args.fields.now c.count-item.result c.in-len1-up.len_at_least c.count-item.is in
    joined _ _ _ _ _ c.both.ensures c.plain_number.ensures c.refill_and_flags.ensures
    ∙ sym (ap (λ (fields : List (List ℕ)). followed plain_number (with_number expression) fields) first)
