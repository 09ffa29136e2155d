use Rattle.std.proofs.Common.{◌≡◌, ◌+◌, Bool, length, take, drop}
use Rattle.st_expr.specs.Expression.{parts_after}
use Rattle.st_expr.proofs.ExprLemmas.{onto_parts}
use Rattle.st_expr.proofs.expressions.first_part.Given as goal

abbrev pub invariant-bytes : goal.invariant-bytes
invariant-bytes l = record {
  rest_of_text : l.rest ≡ drop l.front l.text;
  within : l.front + length l.rest ≡ length l.text;
  same_parts : (m : Bool) → onto_parts (take l.front l.text) (parts_after m l.rest) ≡ parts_after m l.text;
}

abbrev pub decreases-bytes : goal.decreases-bytes
decreases-bytes l = length l.rest
