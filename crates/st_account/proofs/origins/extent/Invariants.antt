use Rattle.st_account.proofs.FirstLemmas.{AreWithin}
use Rattle.st_account.proofs.origins.extent.Given as goal

abbrev pub invariant-loop-row : goal.invariant-loop-row
invariant-loop-row l = AreWithin l.rows l.row-index l.n
