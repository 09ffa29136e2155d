use Rattle.st_ahead.proofs.Common.{IfSome, ◌≡◌, ap, sym, subst, Machine, AreAlikeBesideOrders, words_from, delays-are, Overlap, MayServe, printed_by, overlap_of, orders_are_passed_over}
use Rattle.st_ahead.proofs.Signals.{serve-inside}
use Rattle.st_ahead.proofs.Laws.{signals_leave_lookaheads}
use Rattle.st_ahead.proofs.machine.Machine.print_out.Goals as goal

pub invariant_of-self : goal.invariant_of-self
invariant_of-self g c =
    let n = g.row.N in
    let i = c.self.inside in
    let may = subst MayServe (sym c.self.view_is) c.requires.turn in
    serve-inside n i.delays.list i.committed.state c.print_out.new.state i.committed.taken i.mispredicted i.now i.phase i.lookahead c.self.invariant
    may c.print_out.ensures.after
    (subst (λ (u : Machine). AreAlikeBesideOrders i.committed.state u) (sym c.print_out.ensures.state) (orders_are_passed_over.printed i.committed.state))
    (λ x y f lookahead late done m alike. signals_leave_lookaheads.lookahead i.delays.list n i.now i.now x y f i.lookahead
    c.self.invariant.some c.self.invariant.few (delays-are i.delays) lookahead late done m alike)

pub returns-clause-words : goal.returns-clause-words
returns-clause-words g c =
    subst (λ (m : Overlap). IfSome m.state.printer (λ order. c.print_out.result ≡ words_from m.state order.word 8)) c.self.view_is c.print_out.ensures.words

pub returns-clause-after : goal.returns-clause-after
returns-clause-after g c =
    let n = g.row.N in
    let i = c.self.inside in
    subst (λ (m : Overlap). overlap_of n i.delays.list c.print_out.new.state i.committed.taken i.mispredicted i.now i.phase i.lookahead ≡ printed_by m) c.self.view_is
    (ap (λ (u : Machine). overlap_of n i.delays.list u i.committed.taken i.mispredicted i.now i.phase i.lookahead) c.print_out.ensures.state)
