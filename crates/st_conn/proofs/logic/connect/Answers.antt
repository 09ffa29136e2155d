use Rattle.st_conn.proofs.Common.{◌≡◌, ◌-◌, sum, sym, ◌∙◌, ap, arith, ones, mod-eq_of_lt, ones-le, bits, num, num-bits, leading_zeros}
use Rattle.st_conn.proofs.Weights.{leading_zeros-word, sum-bits}
use Rattle.st_conn.proofs.logic.connect.Goals as goal

pub overflow_sub-result-2 : goal.overflow_sub-result-2
overflow_sub-result-2 c =
    omega (arith, c.from.ensures, leading_zeros-word c.args.n c.results-bits.result c.requires.few c.results-bits.ensures.bound)

pub returns-clause-bits : goal.returns-clause-bits
returns-clause-bits c =
    sym
    (ap num (sym c.results-bits.ensures.each)
    ∙ num-bits c.args.n c.results-bits.result
    ∙ mod-eq_of_lt c.results-bits.ensures.bound)

pub returns-clause-zeros : goal.returns-clause-zeros
returns-clause-zeros c =
    omega (arith, c.from.ensures, leading_zeros-word c.args.n c.results-bits.result c.requires.few c.results-bits.ensures.bound, ap leading_zeros c.results-bits.ensures.each)

pub returns-clause-ones : goal.returns-clause-ones
returns-clause-ones c =
    sym (sum-bits c.args.n c.results-bits.result ∙ ap ones (mod-eq_of_lt c.results-bits.ensures.bound)) ∙ ap sum c.results-bits.ensures.each

pub returns-clause-ones_bound : goal.returns-clause-ones_bound
returns-clause-ones_bound c = ones-le c.args.n c.results-bits.result c.results-bits.ensures.bound
