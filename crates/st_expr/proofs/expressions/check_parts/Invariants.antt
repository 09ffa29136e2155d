use Rattle.std.proofs.Common.{◌≡◌, ◌||◌}
use Rattle.st_expr.specs.Expression.{parts_after, any_bad, any_large}
use Rattle.st_expr.proofs.ExprLemmas.{parts_left, length_left}
use Rattle.st_expr.proofs.expressions.check_parts.Given as goal

abbrev pub invariant-parts : goal.invariant-parts
invariant-parts l = record {
  none_bad : any_bad (parts_left l.left) ≡ any_bad (parts_after l.fn.minus l.fn.text);
  same_large : (l.large || any_large (parts_left l.left)) ≡ any_large (parts_after l.fn.minus l.fn.text);
}

abbrev pub decreases-parts : goal.decreases-parts
decreases-parts l = length_left l.left
