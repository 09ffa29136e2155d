use Rattle.std.proofs.Common.{◌∙◌, ℕ, ◌<◌, ap, sym, refl, List, length, arith}
use Rattle.st_text.proofs.ListLemmas.{first_and_rest, past_first}
use Rattle.st_expr.proofs.ExprLemmas.{onto_parts-nothing, parts_on, plus_here, minus_here}
use Rattle.st_expr.proofs.expressions.first_part.Goals as goal

pub bytes-init : goal.bytes-init
bytes-init c = record {
  rest_of_text = refl;
  within = omega arith;
  same_parts = λ m. onto_parts-nothing m c.args.text.now;
}

pub returns-then-byte-eq43-clause-parts : goal.returns-then-byte-eq43-clause-parts
returns-then-byte-eq43-clause-parts c =
    let parts = first_and_rest c.bytes.rest.now 0 c.in-len1-up.len_at_least in
    λ m. sym (c.bytes.invariant.same_parts m)
    ∙ plus_here m _ _ _ _ _ parts c.if-byte-eq43.true c.split_at.ensures.front

pub returns-then-byte-eq45-clause-parts : goal.returns-then-byte-eq45-clause-parts
returns-then-byte-eq45-clause-parts c =
    let parts = first_and_rest c.bytes.rest.now 0 c.in-len1-up.len_at_least in
    λ m. sym (c.bytes.invariant.same_parts m)
    ∙ minus_here m _ _ _ _ _ parts c.if-byte-eq45.true c.split_at-then-byte-eq45.ensures.front

pub bytes-preserved : goal.bytes-preserved
bytes-preserved c =
    let parts = first_and_rest c.bytes.rest.now 0 c.in-len1-up.len_at_least in
    let within : c.bytes.front < length c.args.text.now = omega arith in
    let further = past_first c.args.text.now _ _ _ _ c.bytes.invariant.rest_of_text parts within in
    record {
      rest_of_text = further.1;
      within = omega (arith, ap (λ (s : List ℕ). length s) parts);
      same_parts = λ m. parts_on m _ _ _ _ _ parts c.if-byte-eq43.false c.if-byte-eq45.false further.0
          ∙ c.bytes.invariant.same_parts m;
    }
