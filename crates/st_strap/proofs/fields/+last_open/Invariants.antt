use Rattle.st_strap.proofs.Common.{length}
use Rattle.st_strap.proofs.fields.+last_open.Given as goal

abbrev pub decreases-last_open : goal.decreases-last_open
decreases-last_open l = length l.text.now
