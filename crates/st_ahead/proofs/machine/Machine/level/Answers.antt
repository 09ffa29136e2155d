use Rattle.st_ahead.proofs.Common.{get_or, map, ◌≡◌, ◌≤◌, length, None, ap, subst, ◌∙◌, sym, arith, delays-are, Overlap, state_ahead, last_tick_made, Ahead, ahead, count, level_shown, view_at_tick, overlap_of}
use Rattle.std.specs.Prelude.{Some}
use Rattle.st_ahead.proofs.Showing.{lookahead-inside, soon-last, showing}
use Rattle.st_ahead.proofs.Views.{showing-level, showing-eight}
use Rattle.st_ahead.proofs.Laws.{lookaheads_are_levels}
use Rattle.st_ahead.proofs.machine.Machine.level.Goals as goal

pub returns-clause-value : goal.returns-clause-value
returns-clause-value g c =
    let n = g.row.N in
    let i = c.self.inside in
    let m = overlap_of n i.delays.list i.committed.state i.committed.taken i.mispredicted i.now i.phase i.lookahead in
    let lookahead = lookahead-inside n i.delays.list i.committed.state i.committed.taken i.mispredicted i.now i.phase i.lookahead c.self.invariant in
    let is = showing m i.lookahead lookahead (lookaheads_are_levels i.delays.list n (last_tick_made m) i.now i.committed.taken (state_ahead m) m.issue i.lookahead
    c.self.invariant.some c.self.invariant.few (delays-are i.delays) (soon-last m) c.level.ensures.few lookahead) in
    let tick = c.last_tick-tick.ensures ∙ ap (λ (x : Overlap). last_tick_made x) (sym c.self.view_is) in
    subst (λ (x : Overlap). c.level.result ≡ get_or (view_at_tick x).levels c.args.k None) c.self.view_is
    (c.level.ensures.value i.delays.list n (last_tick_made m) i.committed.taken (state_ahead m) m.issue lookahead.outlook.ahead
    ∙ ap (λ t. get_or (map (λ (a : Ahead). Some (level_shown t a)) (ahead i.delays.list n (count i.lookahead) i.committed.taken (state_ahead m) m.issue)) c.args.k None) tick
    ∙ showing-level m i.lookahead c.args.k is)

pub returns-clause-eight : goal.returns-clause-eight
returns-clause-eight g c =
    let n = g.row.N in
    let i = c.self.inside in
    let m = overlap_of n i.delays.list i.committed.state i.committed.taken i.mispredicted i.now i.phase i.lookahead in
    let lookahead = lookahead-inside n i.delays.list i.committed.state i.committed.taken i.mispredicted i.now i.phase i.lookahead c.self.invariant in
    let is = showing m i.lookahead lookahead (lookaheads_are_levels i.delays.list n (last_tick_made m) i.now i.committed.taken (state_ahead m) m.issue i.lookahead
    c.self.invariant.some c.self.invariant.few (delays-are i.delays) (soon-last m) c.level.ensures.few lookahead) in
    let most : count i.lookahead ≤ n = c.level.ensures.few in
    let few : n ≤ 8 = c.self.invariant.few in
    subst (λ (x : Overlap). length (view_at_tick x).levels ≡ 8) c.self.view_is (showing-eight m i.lookahead is (omega (arith, most, few)))
