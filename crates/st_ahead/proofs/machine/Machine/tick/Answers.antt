use Rattle.st_ahead.proofs.Common.{◌<◌, ◌^◌, sym, subst, ap, ◌∙◌, arith, delays-are, Overlap}
use Rattle.st_ahead.proofs.Standing.{told}
use Rattle.st_ahead.proofs.Ticks.{passes, completes}
use Rattle.st_ahead.proofs.machine.Machine.tick.Goals as goal

pub tick-done-requires : goal.tick-done-requires
tick-done-requires g c =
    let few = subst (λ (m : Overlap). m.state.done < 2 ^ 63) (sym c.self.view_is) c.requires.done in (omega arith, few)

pub invariant_of-self : goal.invariant_of-self
invariant_of-self g c =
    (passes _ _ _ _ _ _ _ _ _ _ _ _ c.self.invariant c.self.view_is c.requires.settled c.requires.tick
    (delays-are c.self.inside.delays) c.tick-done.ensures.ticked c.in_default.is).inside

pub returns-in_default-clause-event : goal.returns-in_default-clause-event
returns-in_default-clause-event g c =
    (passes _ _ _ _ _ _ _ _ _ _ _ _ c.self.invariant c.self.view_is c.requires.settled c.requires.tick
    (delays-are c.self.inside.delays) c.tick-done.ensures.ticked c.in_default.is).event

pub returns-in_default-clause-after : goal.returns-in_default-clause-after
returns-in_default-clause-after g c =
    (passes _ _ _ _ _ _ _ _ _ _ _ _ c.self.invariant c.self.view_is c.requires.settled c.requires.tick
    (delays-are c.self.inside.delays) c.tick-done.ensures.ticked c.in_default.is).after

pub invariant_of-self-2 : goal.invariant_of-self-2
invariant_of-self-2 g c =
    (completes _ _ _ _ _ _ _ _ _ _ _ _ c.self.invariant c.self.view_is c.requires.settled c.requires.tick
    (delays-are c.self.inside.delays) c.tick-done.ensures.ticked c.in-Some.done c.in-Some.is c.tick-done.ensures.few).inside

pub returns-clause-event : goal.returns-clause-event
returns-clause-event g c =
    let by = completes _ _ _ _ _ _ _ _ _ _ _ _ c.self.invariant c.self.view_is c.requires.settled c.requires.tick
    (delays-are c.self.inside.delays) c.tick-done.ensures.ticked c.in-Some.done c.in-Some.is c.tick-done.ensures.few in
    (by.event, ap (λ k. told k c.in-Some.done.address c.in-Some.done.p c.in-Some.done.r c.self.inside.now) c.done_in-number.ensures ∙ by.row)

pub returns-clause-after : goal.returns-clause-after
returns-clause-after g c =
    (completes _ _ _ _ _ _ _ _ _ _ _ _ c.self.invariant c.self.view_is c.requires.settled c.requires.tick
    (delays-are c.self.inside.delays) c.tick-done.ensures.ticked c.in-Some.done c.in-Some.is c.tick-done.ensures.few).after
