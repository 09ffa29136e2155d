use Rattle.st_ledger.proofs.Common.{nil_from_length}
use Rattle.st_ledger.proofs.Added.{sums_cut, sums_then, sums_none}
use Rattle.st_ledger.proofs.totals.+write_each.Goals as goal

pub returns-in_err-write_sum : goal.returns-in_err-write_sum
returns-in_err-write_sum g t c =
    sums_cut _ _ _ _ _ _ _ c.from_residual.ensures.0 c.in-Some.ensures.cases.0 c.in_err-write_sum.ensures

pub returns : goal.returns
returns g t c = sums_then _ _ _ _ _ _ _ _ c.in-Some.ensures.cases.0 c.in_ok-write_sum.ensures c.write_each.ensures

pub returns-in_default : goal.returns-in_default
returns-in_default g t c = sums_none _ _ _ (nil_from_length _ c.in_default.ensures.cases)
