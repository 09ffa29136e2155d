use Rattle.st_top.proofs.Common.{Budget, ℕ, subst, StandsAtEnd}
use Rattle.st_top.proofs.Moments.{report_cut, report_then}
use Rattle.st_top.proofs.reporting.write_report.Goals as goal

pub returns-in_err-write_run : goal.returns-in_err-write_run
returns-in_err-write_run g c = λ start is stands.
    report_cut _ _ c.args.controls.now start _ _ _ _ _ c.from_residual.ensures.0 is c.in_err-write_run.ensures

pub returns : goal.returns
returns g c = λ start is stands.
    let back = c.args.controls.now.back in
    report_then _ _ _ c.args.controls.now start _ _ _ _ _ is c.in_ok-write_run.ensures
    (c.write_back.ensures start
    (subst (λ (n : ℕ). StandsAtEnd back n start c.run_beside.new.second) c.budget.ensures (c.run_beside.ensures.end back start stands)))

pub run_beside-requires-clause-limit : goal.run_beside-requires-clause-limit
run_beside-requires-clause-limit g c = rw c.budget.ensures (c.requires.limits.once Budget)
