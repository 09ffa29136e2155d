use Rattle.st_run.proofs.Common.{false, with_wait, with_order_at_rest, with_signals_at_rest}
use Rattle.st_run.proofs.EventLemmas.{came-then, came-signals}
use Rattle.st_run.proofs.between.end_wait.Goals as goal

pub returns : goal.returns
unfolding with_wait
returns g c =
    let s = g.M.ExternalEvents.state in
    let l = g.M.ExternalEvents.leaves in
    let both = g.met.M.ExternalEvents.leaves_both in
    let orders = came-then s l both _ with_order_at_rest false false _ _ _ _ _ _ _ _ c.serve_at_rest-first.ensures
    c.serve_at_rest-second.ensures in
    rw c.joined.ensures (came-signals s l both _ with_signals_at_rest false _ _ _ _ _ _ _
    orders c.take_signals_at_rest.ensures.came c.take_signals_at_rest.ensures.cards c.take_signals_at_rest.ensures.rest)
