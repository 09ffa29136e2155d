use Rattle.st_ahead.proofs.Common.{◌≡◌, subst, ◌∙◌, delays-are, Overlap, state_ahead, last_tick_made, lent_index_words, overlap_of}
use Rattle.st_ahead.proofs.Showing.{lookahead-inside, soon-last, showing, showing-index}
use Rattle.st_ahead.proofs.Laws.{lookaheads_are_levels}
use Rattle.st_ahead.proofs.machine.Machine.index.Goals as goal

pub returns : goal.returns
returns g c =
    let n = g.row.N in
    let i = c.self.inside in
    let m = overlap_of n i.delays.list i.committed.state i.committed.taken i.mispredicted i.now i.phase i.lookahead in
    let lookahead = lookahead-inside n i.delays.list i.committed.state i.committed.taken i.mispredicted i.now i.phase i.lookahead c.self.invariant in
    let is = showing m i.lookahead lookahead (lookaheads_are_levels i.delays.list n (last_tick_made m) i.now i.committed.taken (state_ahead m) m.issue i.lookahead
    c.self.invariant.some c.self.invariant.few (delays-are i.delays) (soon-last m) c.index.ensures.few lookahead) in
    subst (λ (x : Overlap). c.index.result.now ≡ lent_index_words x) c.self.view_is (c.index.ensures.words ∙ showing-index m i.lookahead is)
