use Rattle.st_rows.proofs.Common.{IfSome, ℕ, ◌≤◌, Option, subst}
use Rattle.st_rows.proofs.issue.side.Goals as goal

pub latest_done-done-requires : goal.latest_done-done-requires
latest_done-done-requires g c = record { storage = subst (λ (o : Option ℕ). IfSome o (λ w. 32 ≤ w)) c.in-Some.is c.requires.storage }
