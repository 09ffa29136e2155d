use Rattle.st_ahead.proofs.Common.{◌≡◌, ap, sym, subst, AreAlikeBesideOrders, delays-are, Overlap, MaySignal, signalled_by, overlap_of, orders_are_passed_over}
use Rattle.st_ahead.proofs.Signals.{signal-inside}
use Rattle.st_ahead.proofs.Laws.{signals_leave_lookaheads}
use Rattle.st_ahead.proofs.machine.Machine.signal.Goals as goal

pub invariant_of-self : goal.invariant_of-self
invariant_of-self g c =
    let n = g.row.N in
    let i = c.self.inside in
    let u = c.signal.new.self in
    signal-inside n i.delays.list i.committed.state u i.committed.taken i.mispredicted i.now i.phase i.lookahead c.self.invariant
    (subst MaySignal (sym c.self.view_is) c.requires.turn) c.signal.ensures.after
    (subst (λ x. AreAlikeBesideOrders i.committed.state x) (sym c.signal.ensures.value) (orders_are_passed_over.signalled i.committed.state c.args.i))
    (λ x y f lookahead late done m alike. signals_leave_lookaheads.lookahead i.delays.list n i.now i.now x y f i.lookahead
    c.self.invariant.some c.self.invariant.few (delays-are i.delays) lookahead late done m alike)

pub returns : goal.returns
returns g c =
    let i = c.self.inside in
    let u = c.signal.new.self in
    subst (λ (m : Overlap). overlap_of g.row.N i.delays.list u i.committed.taken i.mispredicted i.now i.phase i.lookahead ≡ signalled_by c.args.i m) c.self.view_is
    (ap (λ x. overlap_of g.row.N i.delays.list x i.committed.taken i.mispredicted i.now i.phase i.lookahead) c.signal.ensures.value)
