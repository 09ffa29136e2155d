-- Termination: one round fewer remains at each call.
use Rattle.st_draw.proofs.axis.+push_marks.Given as goal

abbrev pub decreases-push_marks : goal.decreases-push_marks
decreases-push_marks l = l.fuel
