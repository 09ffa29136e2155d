use Rattle.std.proofs.Common.{◌≡◌, ◌≤◌, ◌+◌, ◌*◌, ◌++◌, length}
use Rattle.st_expr.specs.Expression.{parts_after, terms_of}
use Rattle.st_expr.proofs.ExprLemmas.{parts_left, length_left}
use Rattle.st_expr.proofs.expressions.terms_in.Given as goal

abbrev pub invariant-parts : goal.invariant-parts
invariant-parts l = record {
  same_terms : l.terms.items ++ terms_of (parts_left l.left) ≡ terms_of (parts_after l.fn.minus l.fn.text);
  room : 2 * length l.terms.items + length_left l.left ≤ 64;
}

abbrev pub decreases-parts : goal.decreases-parts
decreases-parts l = length_left l.left
