use Rattle.st_run.proofs.Common.{false, Printer, Scene, with_due_order, with_due_orders}
use Rattle.st_run.proofs.EventLemmas.{came-then}
use Rattle.st_run.proofs.between.serve_due.Goals as goal

pub returns : goal.returns
unfolding with_due_orders
returns g c =
    rw c.joined.ensures (came-then g.M.ExternalEvents.state g.M.ExternalEvents.leaves g.met.M.ExternalEvents.leaves_both _
    (λ (d : Scene). with_due_order Printer d) false false _ _ _ _ _ _ _ _ c.serve_if_due-first.ensures c.serve_if_due-second.ensures)
