use Rattle.st_object.proofs.Common.{◌≡◌, drop, order, none_stands, has_line}
use Rattle.st_object.proofs.drafts.Draft.none_stands.Given as goal

abbrev pub invariant-kinds : goal.invariant-kinds
invariant-kinds l = none_stands (has_line l.self) (drop l.place order) ≡ none_stands (has_line l.self) (drop l.start order)
