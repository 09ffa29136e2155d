-- Termination: one round fewer remains at each call.
use Rattle.st_draw.proofs.axis.+step_from.Given as goal

abbrev pub decreases-step_from : goal.decreases-step_from
decreases-step_from l = l.fuel
