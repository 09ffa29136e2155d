use Rattle.st_ahead.proofs.Common.{sym, ◌∙◌, arith, delays-are}
use Rattle.st_ahead.proofs.Settling.{end-again, completed}
use Rattle.st_ahead.proofs.Ends.{ends}
use Rattle.st_ahead.proofs.machine.Machine.end.Goals as goal

pub returns-then-has_ended-clause-dropped : goal.returns-then-has_ended-clause-dropped
returns-then-has_ended-clause-dropped g c = (end-again c.args.self.now (sym c.has_ended.ensures ∙ c.if-has_ended.true)).0

pub returns-then-has_ended-clause-after : goal.returns-then-has_ended-clause-after
returns-then-has_ended-clause-after g c = (end-again c.args.self.now (sym c.has_ended.ensures ∙ c.if-has_ended.true)).1

pub end-dropped-requires : goal.end-dropped-requires
end-dropped-requires g c =
    let n = g.row.N in
    let i = c.self.inside in
    let is = completed n i.delays.list i.committed.state i.committed.taken i.mispredicted i.now i.phase i.lookahead c.args.self.now c.self.invariant c.self.view_is c.requires.turn (sym c.has_ended.ensures ∙ c.if-has_ended.false) in
    (omega arith, (tt, (omega (arith, is.inside.in_time), is.inside.in_phase.2)))

pub invariant_of-self : goal.invariant_of-self
invariant_of-self g c =
    (ends _ _ _ _ _ _ _ _ _ _ _ c.self.invariant c.self.view_is (delays-are c.self.inside.delays) c.end-dropped.ensures.machine
    c.end-dropped.ensures.few c.end-dropped.ensures.dropped c.requires.turn (sym c.has_ended.ensures ∙ c.if-has_ended.false)
    c.end-dropped.ensures.opened c.end-dropped.ensures.banks).inside

pub returns-clause-dropped : goal.returns-clause-dropped
returns-clause-dropped g c =
    (ends _ _ _ _ _ _ _ _ _ _ _ c.self.invariant c.self.view_is (delays-are c.self.inside.delays) c.end-dropped.ensures.machine
    c.end-dropped.ensures.few c.end-dropped.ensures.dropped c.requires.turn (sym c.has_ended.ensures ∙ c.if-has_ended.false)
    c.end-dropped.ensures.opened c.end-dropped.ensures.banks).dropped_is

pub returns-clause-after : goal.returns-clause-after
returns-clause-after g c =
    (ends _ _ _ _ _ _ _ _ _ _ _ c.self.invariant c.self.view_is (delays-are c.self.inside.delays) c.end-dropped.ensures.machine
    c.end-dropped.ensures.few c.end-dropped.ensures.dropped c.requires.turn (sym c.has_ended.ensures ∙ c.if-has_ended.false)
    c.end-dropped.ensures.opened c.end-dropped.ensures.banks).after
