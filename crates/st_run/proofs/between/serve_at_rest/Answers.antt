use Rattle.st_run.proofs.Common.{ap, sym, ◌∙◌, next_device, rests}
use Rattle.std.specs.Prelude.{None, Some}
use Rattle.st_run.proofs.EventLemmas.{came-is, came-none, order-awake, order-at_rest}
use Rattle.st_run.proofs.between.serve_at_rest.Goals as goal

pub returns-then-not-is_at_rest : goal.returns-then-not-is_at_rest
returns-then-not-is_at_rest g c =
    came-is g.M.ExternalEvents.state g.M.ExternalEvents.leaves _ _ _ _ _ _ _ _
    (order-awake _ (sym (ap rests c.state.ensures) ∙ sym c.is_at_rest.ensures ∙ c.if-not-is_at_rest.true))
    (came-none _ _ _ _ (g.met.M.ExternalEvents.leaves_same _))

pub returns-in-None : goal.returns-in-None
returns-in-None g c =
    came-is g.M.ExternalEvents.state g.M.ExternalEvents.leaves _ _ _ _ _ _ _ _
    (order-at_rest _ None (sym (ap rests c.state.ensures) ∙ sym c.is_at_rest.ensures ∙ c.if-not-is_at_rest.false)
    (sym (ap next_device c.state-2.ensures) ∙ sym c.next_device.ensures ∙ c.in-None.is))
    (came-none _ _ _ _ (g.met.M.ExternalEvents.leaves_same _))

pub returns-in-Some : goal.returns-in-Some
returns-in-Some g c =
    came-is g.M.ExternalEvents.state g.M.ExternalEvents.leaves _ _ _ _ _ _ _ _
    (order-at_rest _ (Some c.in-Some.device) (sym (ap rests c.state.ensures) ∙ sym c.is_at_rest.ensures ∙ c.if-not-is_at_rest.false)
    (sym (ap next_device c.state-2.ensures) ∙ sym c.next_device.ensures ∙ c.in-Some.is))
    c.serve.ensures
