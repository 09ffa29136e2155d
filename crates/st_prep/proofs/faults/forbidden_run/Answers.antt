use Rattle.st_prep.proofs.Common.{◌≡◌, ◌+◌, ◌-◌, ◌≤◌, ◌∙◌, sym, arith}
use Rattle.st_prep.proofs.ForbiddenRuns.{run-none, run-found, run-next}
use Rattle.st_prep.proofs.faults.forbidden_run.Goals as goal

pub returns-then-is_some-clause-value : goal.returns-then-is_some-clause-value
returns-then-is_some-clause-value c =
    let some : 1 ≤ c.args.first + c.args.len - c.loop-w.w = omega arith in
    sym (c.loop-w.invariant ∙ run-found _ _ _ _ _ c.forbidden-fault.result some c.forbidden-fault.ensures.value cc)

pub loop-w-preserved : goal.loop-w-preserved
loop-w-preserved c =
    let one : c.args.first + c.args.len - c.loop-w.w ≡ c.args.first + c.args.len - (c.loop-w.w + 1) + 1 = omega arith in
    c.loop-w.invariant ∙ run-next _ _ _ _ _ _ c.forbidden-fault.result one c.forbidden-fault.ensures.value cc

pub returns-clause-value : goal.returns-clause-value
returns-clause-value c =
    let none : c.args.first + c.args.len - c.loop-w.w ≡ 0 = omega arith in
    sym (c.loop-w.invariant ∙ run-none _ _ _ _ _ none)
