-- The numbers of the banks.
use Rattle.std.proofs.Common.{ℕ, ◌<◌, arith}
use Rattle.std.proofs.lemmas.Bool.Decides.{nat_tests}
use Rattle.st_banks.specs.Bank.{bank_of}
use Rattle.st_banks.specs.declared.answers.TheConstants.{BANKS}

pub bank_of-below : (w : ℕ) → bank_of w < BANKS
unfolding bank_of
bank_of-below w = grind (arith, nat_tests)
