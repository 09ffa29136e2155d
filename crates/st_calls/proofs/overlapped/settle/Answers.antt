use Rattle.std.proofs.Common.{sym, ◌∙◌, ap}
use Rattle.st_ahead.specs.Overlap.{Overlap}
use Rattle.st_ahead.proofs.Idling.{goes-passed}
use Rattle.st_calls.proofs.overlapped.settle.Goals as goal

pub returns-clause-ready : goal.returns-clause-ready
returns-clause-ready g c =
    ap (λ (m : Overlap). m.phase) (c.settle.ensures.after ∙ goes-passed c.args.machine.now (sym c.in-Goes.ensures.answer))

pub returns-clause-now : goal.returns-clause-now
returns-clause-now g c =
    ap (λ (m : Overlap). m.now) (c.settle.ensures.after ∙ goes-passed c.args.machine.now (sym c.in-Goes.ensures.answer))

pub returns-clause-done : goal.returns-clause-done
returns-clause-done g c =
    ap (λ (m : Overlap). m.state.done) (c.settle.ensures.after ∙ goes-passed c.args.machine.now (sym c.in-Goes.ensures.answer)) ∙ c.requires.done
