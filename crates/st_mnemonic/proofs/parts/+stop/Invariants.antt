use Rattle.st_mnemonic.proofs.Common.{length}
use Rattle.st_mnemonic.proofs.parts.+stop.Given as goal

abbrev pub decreases-stop : goal.decreases-stop
decreases-stop l = length l.text.now
