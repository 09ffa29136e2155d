use Rattle.st_ring.proofs.Common.{◌<◌, List, length, drop, ap, ◌∙◌, arith, rules, length-window, window-pop, PlannedRow}
use Rattle.st_ring.proofs.plans.PlannedRowRing.drop_first.Goals as goal

pub returns-clause-rows : goal.returns-clause-rows
returns-clause-rows c =
    let q = c.self.inside in
    let counted = length-window 8 q.head q.len q.slots c.self.invariant.inside (omega arith) (search rules) in
    let same = ap length c.self.view_is in
    let some : 0 < q.len = omega (arith, counted, same) in
    window-pop 8 q.head q.len q.slots c.self.invariant.inside (omega arith) (search rules) some
    ∙ ap (λ (rows : List PlannedRow). drop 1 rows) c.self.view_is
