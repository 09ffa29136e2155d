use Rattle.st_account.proofs.Common.{◌∙◌, ap, Prepared}
use Rattle.std.proofs.Common.{if◌then◌else◌}
use Rattle.st_account.proofs.LastLemmas.{prediction-is}
use Rattle.st_account.proofs.stepping.execute.Goals as goal

pub returns-clause-prediction : goal.returns-clause-prediction
returns-clause-prediction c = λ taken plan.
    prediction-is taken c.args.state.now c.complete_in.new.state c.predicted_counter-last.result (c.complete_in.ensures.step taken plan)
    (c.predicted_counter-last.ensures.value
    ∙ ap (λ (p : Prepared). if p.serial then c.complete_in.new.state.ic else p.following) plan)
