use Rattle.st_exec.proofs.Common.{◌≡◌, ap, ◌∙◌, arith, Machine}
use Rattle.st_exec.proofs.Unchanged.{done-done}
use Rattle.st_exec.proofs.completing.finish.Goals as goal

pub count-requires-2-clause-few : goal.count-requires-2-clause-few
count-requires-2-clause-few c =
    let same : c.carry_out.new.state.done ≡ c.args.state.now.done =
    ap (λ (t : Machine). t.done) c.carry_out.ensures ∙ done-done c.effect_by-effect.result c.args.state.now in
    omega arith
