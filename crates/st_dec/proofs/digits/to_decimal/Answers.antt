use Rattle.st_dec.proofs.Common.{◌%◌, ap, ◌∙◌, digits_of}
use Rattle.st_dec.proofs.RecodeLemmas.{digits_of-cut, cut_small, decimal_fits}
use Rattle.st_dec.proofs.digits.to_decimal.Goals as goal

pub to_digits-requires : goal.to_digits-requires
to_digits-requires c = rw c.power_of_ten-limit.ensures.value (cut_small c.args.count c.args.mag c.requires)

pub returns-clause-digits : goal.returns-clause-digits
returns-clause-digits c =
    digits_of-cut _ _ _ c.requires
    (c.to_digits.ensures.digits ∙ ap (λ k. digits_of 32 (c.args.mag % k)) c.power_of_ten-limit.ensures.value)

pub returns-clause-fits : goal.returns-clause-fits
returns-clause-fits c = rw (returns-clause-digits c) (decimal_fits c.args.count c.args.mag)
