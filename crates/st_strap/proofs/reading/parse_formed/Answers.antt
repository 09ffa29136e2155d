use Rattle.st_strap.proofs.Common.{◌∙◌, ℕ, List, ap, sym, texts, with_fields, fields_of, FieldText, statement_in_form}
use Rattle.st_strap.proofs.FirstFields.{enough_fields}
use Rattle.st_strap.proofs.reading.parse_formed.Goals as goal

pub returns-in-Some : goal.returns-in-Some
unfolding statement_in_form
returns-in-Some c =
    let op = c.args.op in
    let form = c.in-Some.form in
    rw (sym c.progressed-form.ensures.form, c.in-Some.is, sym c.progressed-form.ensures.behind)
    (c.with_fields.ensures
    ∙ (ap (λ (fs : List FieldText). with_fields op form (texts fs)) c.as_slice.ensures.value
    ∙ (ap (λ (ps : List (List ℕ)). with_fields op form ps) c.fields.ensures ∙ enough_fields op form _)))
