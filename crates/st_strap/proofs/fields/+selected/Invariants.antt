use Rattle.st_strap.proofs.Common.{length}
use Rattle.st_strap.proofs.fields.+selected.Given as goal

abbrev pub decreases-selected : goal.decreases-selected
decreases-selected l = length l.fields.now
