-- Termination: one piece fewer remains at each call.
use Rattle.st_entries.proofs.report.+piece.Given as goal

abbrev pub decreases-piece : goal.decreases-piece
decreases-piece l = l.k
