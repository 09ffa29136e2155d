use Rattle.st_object.proofs.Common.{◌≡◌, list_all, drop, take, order, is_met, are_met, has_line}
use Rattle.st_object.proofs.drafts.Draft.are_met.Given as goal

abbrev pub invariant-kinds : goal.invariant-kinds
invariant-kinds l = list_all (is_met (has_line l.self)) (drop l.place (take l.end order)) ≡ are_met (has_line l.self) (take l.end order)
