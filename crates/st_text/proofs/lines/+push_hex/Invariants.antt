-- One digit fewer remains at each call.
use Rattle.st_text.proofs.lines.+push_hex.Given as goal

abbrev pub decreases-push_hex : goal.decreases-push_hex
decreases-push_hex l = l.digits
