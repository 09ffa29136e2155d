use Rattle.std.proofs.Common.{◌-ℤ◌, ◌≤ℤ◌, ◌+◌, ◌*◌, ◌^◌, ℤ, pos, length, Some, subst, sym, ap, ◌∙◌}
use Rattle.st_expr.proofs.ValueLemmas.{nothing_behind, more_behind, length_behind, only_part, first_of_parts, sum_within}
use Rattle.st_expr.proofs.texts.+sum_of.Goals as goal

pub overflow_add-result : goal.overflow_add-result
overflow_add-result t c =
    let shorter = length_behind _ _ _ _ c.in_default-Some.is-1 c.first_part.ensures.lengths in
    let first = c.in_ok-value-in_default-Some.ensures in
    let behind = c.in_ok-sum-in_default-Some.ensures in
    (sum_within _ _ _ _ _ _ c.in_default-Some.rest-is shorter c.requires first.low first.high behind.low behind.high).0

pub returns-in_default-None-clause-value : goal.returns-in_default-None-clause-value
returns-in_default-None-clause-value t c =
    only_part c.args.symbols.now c.args.minus c.args.text.now c.first_part.result.0.now c.part_value.result
    (nothing_behind c.args.text.now c.first_part.result.0.now c.first_part.result.1 c.in_default-None.is-1 c.first_part.ensures.parts c.args.minus)
    c.part_value.ensures.value

pub returns-in_ok-sum-in_default-Some-clause-value : goal.returns-in_ok-sum-in_default-Some-clause-value
returns-in_ok-sum-in_default-Some-clause-value t c =
    let shorter = length_behind _ _ _ _ c.in_default-Some.is-1 c.first_part.ensures.lengths in
    let first = c.in_ok-value-in_default-Some.ensures in
    let behind = c.in_ok-sum-in_default-Some.ensures in
    ap (λ (n : ℤ). Some n) (sum_within _ _ _ _ _ _ c.in_default-Some.rest-is shorter c.requires first.low first.high behind.low behind.high).1
    ∙ first_of_parts c.args.symbols.now c.args.minus _ _ c.args.text.now c.first_part.result.0.now _ _ _ _ c.in_default-Some.next-is
    c.in_default-Some.rest-is
    (more_behind c.args.text.now c.first_part.result.0.now _ _ c.in_default-Some.is-1 c.first_part.ensures.parts c.args.minus)
    first.value behind.value

pub returns-in_ok-sum-in_default-Some-clause-low : goal.returns-in_ok-sum-in_default-Some-clause-low
returns-in_ok-sum-in_default-Some-clause-low t c =
    let shorter = length_behind _ _ _ _ c.in_default-Some.is-1 c.first_part.ensures.lengths in
    let first = c.in_ok-value-in_default-Some.ensures in
    let behind = c.in_ok-sum-in_default-Some.ensures in
    let all = sum_within _ _ _ _ _ _ c.in_default-Some.rest-is shorter c.requires first.low first.high behind.low behind.high in
    subst (λ (n : ℤ). (pos 0 -ℤ pos ((length c.args.text.now + 1) * 2 ^ 32)) ≤ℤ n) (sym all.1) all.2

pub returns-in_ok-sum-in_default-Some-clause-high : goal.returns-in_ok-sum-in_default-Some-clause-high
returns-in_ok-sum-in_default-Some-clause-high t c =
    let shorter = length_behind _ _ _ _ c.in_default-Some.is-1 c.first_part.ensures.lengths in
    let first = c.in_ok-value-in_default-Some.ensures in
    let behind = c.in_ok-sum-in_default-Some.ensures in
    let all = sum_within _ _ _ _ _ _ c.in_default-Some.rest-is shorter c.requires first.low first.high behind.low behind.high in
    subst (λ (n : ℤ). n ≤ℤ pos ((length c.args.text.now + 1) * 2 ^ 32)) (sym all.1) all.3
