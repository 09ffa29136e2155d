use Rattle.st_report.proofs.Common.{refl, arith, digits}
use Rattle.st_report.proofs.kept.KeptDigits.new.Goals as goal

pub invariant_of-result : goal.invariant_of-result
unfolding digits
invariant_of-result c = (omega arith, refl, omega arith, omega arith, refl)
