use Rattle.st_ring.proofs.Common.{length, sym, ap, ◌∙◌, arith, length-window}
use Rattle.st_ring.proofs.plans.PlannedRowRing.len.Goals as goal

pub returns-clause-value : goal.returns-clause-value
returns-clause-value c =
    let q = c.self.inside in
    sym (length-window 8 q.head q.len q.slots c.self.invariant.inside (omega arith) c.self.invariant.whole) ∙ ap length c.self.view_is
