use Rattle.st_ahead.proofs.Common.{length, subst, sym, ap, arith, delays-are, Level, Overlap, state_ahead, last_tick_made, AreLevelsOf, overlap_of}
use Rattle.std.specs.Prelude.{List}
use Rattle.st_ahead.proofs.Showing.{lookahead-inside, soon-last, showing, showing-ring}
use Rattle.st_ahead.proofs.Laws.{lookaheads_are_levels}
use Rattle.st_ahead.proofs.machine.Machine.ring.Goals as goal

pub returns-clause-levels : goal.returns-clause-levels
returns-clause-levels g c =
    let n = g.row.N in
    let i = c.self.inside in
    let m = overlap_of n i.delays.list i.committed.state i.committed.taken i.mispredicted i.now i.phase i.lookahead in
    let lookahead = lookahead-inside n i.delays.list i.committed.state i.committed.taken i.mispredicted i.now i.phase i.lookahead c.self.invariant in
    let is = showing m i.lookahead lookahead (lookaheads_are_levels i.delays.list n (last_tick_made m) i.now i.committed.taken (state_ahead m) m.issue i.lookahead
    c.self.invariant.some c.self.invariant.few (delays-are i.delays) (soon-last m) c.ring.ensures.few lookahead) in
    subst (λ (x : Overlap). AreLevelsOf x c.ring.result.now) c.self.view_is
    (subst (λ (levels : List Level). AreLevelsOf m levels) (sym c.ring.ensures.levels) (showing-ring m i.lookahead is))

pub returns-clause-few : goal.returns-clause-few
returns-clause-few g c = omega (arith, c.ring.ensures.few, c.self.invariant.few, ap length c.ring.ensures.levels)
