use Rattle.st_ahead.proofs.Common.{◌≡◌, sym, subst, arith, delays-are, Overlap, Ticked}
use Rattle.st_ahead.proofs.Settling.{in-field}
use Rattle.st_ahead.proofs.Standing.{same-field}
use Rattle.st_ahead.proofs.Ends.{gives_up}
use Rattle.st_ahead.specs.declared.phase.Phase.TheVariants as fields
use Rattle.st_ahead.proofs.machine.Machine.give_up.Goals as goal

pub give_up-dropped-requires : goal.give_up-dropped-requires
give_up-dropped-requires g c =
    let n = g.row.N in
    let i = c.self.inside in
    let is = in-field n i.delays.list i.committed.state i.committed.taken i.mispredicted i.now i.phase fields.Ticked i.lookahead c.args.self.now c.self.invariant c.self.view_is
    (same-field _ i.phase fields.Ticked (subst (λ (m : Overlap). m.phase ≡ Ticked) (sym c.self.view_is) c.requires.none)) in
    (omega arith, (is.0.indicator, omega (arith, is.0.in_time)))

pub invariant_of-self : goal.invariant_of-self
invariant_of-self g c =
    (gives_up _ _ _ _ _ _ _ _ _ _ _ c.self.invariant c.self.view_is (delays-are c.self.inside.delays) c.give_up-dropped.ensures.machine
    c.give_up-dropped.ensures.few c.give_up-dropped.ensures.dropped c.requires.none c.give_up-dropped.ensures.opened).inside

pub returns-clause-dropped : goal.returns-clause-dropped
returns-clause-dropped g c =
    (gives_up _ _ _ _ _ _ _ _ _ _ _ c.self.invariant c.self.view_is (delays-are c.self.inside.delays) c.give_up-dropped.ensures.machine
    c.give_up-dropped.ensures.few c.give_up-dropped.ensures.dropped c.requires.none c.give_up-dropped.ensures.opened).dropped_is

pub returns-clause-after : goal.returns-clause-after
returns-clause-after g c =
    (gives_up _ _ _ _ _ _ _ _ _ _ _ c.self.invariant c.self.view_is (delays-are c.self.inside.delays) c.give_up-dropped.ensures.machine
    c.give_up-dropped.ensures.few c.give_up-dropped.ensures.dropped c.requires.none c.give_up-dropped.ensures.opened).after
