use Rattle.st_ahead.proofs.Common.{◌≡◌, sym, subst, Overlap, Ended}
use Rattle.st_ahead.proofs.Settling.{ended-rest, stopped-inside}
use Rattle.st_ahead.proofs.machine.Machine.stop.Goals as goal

pub invariant_of-self : goal.invariant_of-self
invariant_of-self g c =
    let n = g.row.N in
    let i = c.self-else-eq.inside in
    let over = (ended-rest c.args.self.now c.end-dropped.new.self c.end-dropped.ensures.after).phase c.requires.turn in
    stopped-inside n i.delays.list i.committed.state i.committed.taken i.mispredicted i.now i.phase i.lookahead c.self-else-eq.invariant
    (subst (λ (m : Overlap). m.phase ≡ Ended) (sym c.self-else-eq.view_is) over)
