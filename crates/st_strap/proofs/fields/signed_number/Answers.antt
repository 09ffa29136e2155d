use Rattle.st_strap.proofs.Common.{◌∙◌, ap, ℕ, List, Bool, Result, Fault, reading_without_index, index_part, signed_of, signed_number}
use Rattle.st_strap.proofs.fields.signed_number.Goals as goal

pub returns : goal.returns
unfolding signed_number
returns c =
    let value = c.signed_of.ensures ∙ ap (λ (f : List ℕ). signed_of f) c.split_index.ensures.front in
    c.unindexed.ensures
    ∙ (ap (λ (p : List ℕ). reading_without_index p c.signed_of.result) c.split_index.ensures.part
    ∙ ap (λ (v : Result (Bool × ℕ) Fault). reading_without_index (index_part c.args.field.now) v) value)
