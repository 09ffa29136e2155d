use Rattle.st_dis.proofs.pieces.+push_listed_fields.Given as goal

abbrev pub decreases-push_listed_fields : goal.decreases-push_listed_fields
decreases-push_listed_fields l = l.count
