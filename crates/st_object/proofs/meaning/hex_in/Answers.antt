use Rattle.st_object.proofs.Common.{◌∙◌}
use Rattle.st_text.proofs.ListLemmas.{first_and_rest}
use Rattle.st_object.proofs.Spellings.{digit_on}
use Rattle.st_object.proofs.meaning.hex_in.Goals as goal

pub digits-preserved : goal.digits-preserved
digits-preserved c =
    digit_on c.args.text.now c.digits.rest.now _ c.digits.number _ _ (first_and_rest c.digits.rest.now 0 c.in-len1-up.len_at_least)
    (c.from.ensures ∙ c.hex_digit_in.ensures.value) c.digits.invariant
