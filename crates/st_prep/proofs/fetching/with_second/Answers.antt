use Rattle.st_prep.proofs.Common.{◌+◌, ◌/◌, None, sym, ◌∙◌, ap, arith, length-drop, decoded_entry, Has, given_by}
use Rattle.st_prep.proofs.GivenLemmas.{differs, second-wants, second-has}
use Rattle.st_prep.proofs.fetching.with_second.Goals as goal

pub returns-then-contents-lt2-clause-value : goal.returns-then-contents-lt2-clause-value
returns-then-contents-lt2-clause-value c = λ t k.
    let cs = c.args.contents.now in
    second-wants _ t _ _ _ _ k cs (sym c.may.ensures.value ∙ c.in_default.is)
    (differs ((c.args.h + 1) / 2) (c.args.h / 2) c.if-word-h.false)
    (omega (arith, c.if-contents-lt2.true, length-drop 1 cs))

pub returns-clause-value : goal.returns-clause-value
returns-clause-value c = λ t k.
    let cs = c.args.contents.now in
    second-has _ t _ _ _ _ k cs (sym c.may.ensures.value ∙ c.in_default.is)
    (differs ((c.args.h + 1) / 2) (c.args.h / 2) c.if-word-h.false)
    (omega (arith, c.if-contents-lt2.false, length-drop 1 cs))
    ∙ ap (λ x. given_by t (Has (record { decoded = decoded_entry c.args.first x; fault = None }) 2) cs k) (sym c.half_of-2.ensures)
    ∙ ap (λ d. given_by t (Has (record { decoded = d; fault = None }) 2) cs k) (sym c.decode-2.ensures.value)
    ∙ ap (λ r. given_by t r cs k) (sym c.has-2.ensures)
