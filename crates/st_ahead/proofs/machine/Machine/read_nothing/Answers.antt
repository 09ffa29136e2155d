use Rattle.st_ahead.proofs.Common.{IsSome, IfSome, ◌≡◌, None, sym, subst, Machine, delays-are, Overlap, MayServe, read_in_by, overlap_of, orders_are_passed_over}
use Rattle.st_ahead.proofs.Signals.{serve-inside}
use Rattle.st_ahead.proofs.Cards.{no_card-alike, with-read}
use Rattle.st_ahead.proofs.Laws.{signals_leave_lookaheads}
use Rattle.st_ahead.proofs.machine.Machine.read_nothing.Goals as goal

pub invariant_of-self : goal.invariant_of-self
invariant_of-self g c =
    let n = g.row.N in
    let i = c.self.inside in
    let some = subst (λ (m : Overlap). IsSome m.state.reader) (sym c.self.view_is) c.requires.order in
    let may = subst MayServe (sym c.self.view_is) c.requires.turn in
    serve-inside n i.delays.list i.committed.state c.read_in.new.state i.committed.taken i.mispredicted i.now i.phase i.lookahead c.self.invariant
    may c.read_in.ensures.after
    (no_card-alike i.committed.state c.read_in.new.state i.committed.state.reader (orders_are_passed_over.no_card i.committed.state) some c.read_in.ensures.state)
    (λ x y f lookahead late done m alike. signals_leave_lookaheads.lookahead i.delays.list n i.now i.now x y f i.lookahead
    c.self.invariant.some c.self.invariant.few (delays-are i.delays) lookahead late done m alike)

pub returns : goal.returns
returns g c =
    let n = g.row.N in
    let i = c.self.inside in
    subst (λ (m : Overlap). IfSome m.state.reader (λ order. overlap_of n i.delays.list c.read_in.new.state i.committed.taken i.mispredicted i.now i.phase i.lookahead ≡ read_in_by order.word None m))
    c.self.view_is
    (with-read i.committed.state.reader None i.committed.state c.read_in.new.state (λ (u : Machine). overlap_of n i.delays.list u i.committed.taken i.mispredicted i.now i.phase i.lookahead) c.read_in.ensures.state)
