use Rattle.st_exec.proofs.Common.{◌≡◌, ap, ◌∙◌, arith, Machine}
use Rattle.st_exec.proofs.Unchanged.{opened-done, early-done, operands-read}
use Rattle.st_exec.proofs.completing.complete_with.Goals as goal

pub finish-requires-clause-read : goal.finish-requires-clause-read
finish-requires-clause-read c =
    rw (c.change_speculatively.ensures, c.take.ensures)
    (operands-read c.args.p.now c.args.operands.now c.args.state.now c.requires.prepared c.requires.operands)

pub finish-requires-clause-few : goal.finish-requires-clause-few
finish-requires-clause-few c =
    let p = c.args.p.now in
    let same : c.change_speculatively.new.state.done ≡ c.args.state.now.done =
    ap (λ (t : Machine). t.done) c.change_speculatively.ensures
    ∙ early-done p c.take.new.state
    ∙ ap (λ (t : Machine). t.done) c.take.ensures
    ∙ opened-done p.place.table c.args.state.now in
    omega arith
