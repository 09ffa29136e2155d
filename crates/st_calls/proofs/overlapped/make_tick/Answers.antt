use Rattle.std.proofs.Common.{◌∙◌, ap}
use Rattle.st_ahead.specs.Overlap.{Overlap}
use Rattle.st_ahead.specs.Calls.{may_settle}
use Rattle.st_ahead.proofs.Idling.{late-ticked}
use Rattle.st_calls.proofs.overlapped.make_tick.Goals as goal

pub returns-clause-turn : goal.returns-clause-turn
returns-clause-turn g c =
    ap (λ (m : Overlap). may_settle m.phase) (c.tick.ensures.after ∙ late-ticked c.args.machine.now c.in-Passed.ensures.event)

pub returns-clause-now : goal.returns-clause-now
returns-clause-now g c =
    ap (λ (m : Overlap). m.now) (c.tick.ensures.after ∙ late-ticked c.args.machine.now c.in-Passed.ensures.event)

pub returns-clause-done : goal.returns-clause-done
returns-clause-done g c =
    ap (λ (m : Overlap). m.state.done) (c.tick.ensures.after ∙ late-ticked c.args.machine.now c.in-Passed.ensures.event) ∙ c.requires.done
