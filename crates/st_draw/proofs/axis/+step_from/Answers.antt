use Rattle.std.proofs.Common.{◌∙◌, sym, arith}
use Rattle.st_draw.proofs.Axes.{step_from-none, step_from-one, step_from-two, step_from-five, step_from-ten}
use Rattle.st_draw.proofs.axis.+step_from.Goals as goal

pub returns-then-fuel-eq0-clause-value : goal.returns-then-fuel-eq0-clause-value
returns-then-fuel-eq0-clause-value t c = sym (step_from-none _ _ _ (omega arith))

pub returns-then-wanted-five-clause-value : goal.returns-then-wanted-five-clause-value
returns-then-wanted-five-clause-value t c = sym (step_from-one _ _ _ (omega arith) (omega arith))

pub returns-then-wanted-five-2-clause-value : goal.returns-then-wanted-five-2-clause-value
returns-then-wanted-five-2-clause-value t c = sym (step_from-two _ _ _ (omega arith) (omega arith) (omega arith))

pub returns-then-wanted-five-3-clause-value : goal.returns-then-wanted-five-3-clause-value
returns-then-wanted-five-3-clause-value t c = sym (step_from-five _ _ _ (omega arith) (omega arith) (omega arith))

pub returns-else-wanted-five-3-clause-value : goal.returns-else-wanted-five-3-clause-value
returns-else-wanted-five-3-clause-value t c =
    let next = step_from-ten c.args.fuel c.args.unit c.args.span (omega arith) (omega arith) in
    c.step_from.ensures.value ∙ sym next
