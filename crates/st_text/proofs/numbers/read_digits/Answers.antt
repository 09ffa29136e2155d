use Rattle.st_text.proofs.Common.{◌∙◌, ◌+◌, ◌*◌, min, sym, ap, arith}
use Rattle.st_text.proofs.ListLemmas.{first_and_rest}
use Rattle.st_text.proofs.NumberLemmas.{value_step, digits_step}
use Rattle.st_text.proofs.numbers.read_digits.Goals as goal

pub digits-preserved : goal.digits-preserved
digits-preserved c =
    let parts = first_and_rest c.digits.rest.now 0 c.in-len1-up.len_at_least in
    record {
      capped = omega arith;
      same_test = digits_step _ _ _ parts (sym c.is_ascii_digit.ensures.value ∙ c.if-not-is_ascii_digit.false) ∙ c.digits.invariant.same_test;
      same_value = value_step _ _ _ _ _ _ parts (c.min-number.ensures ∙ ap (λ d. min (c.digits.number * 10 + d) c.args.cap) c.from.ensures) ∙ c.digits.invariant.same_value;
    }
