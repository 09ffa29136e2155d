use Rattle.st_ring.proofs.Common.{◌<◌, List, [], ◌∷◌, ◌++◌, length, ap, ap₂, ◌∙◌, arith, rules, length-window, window-push, PlannedRow}
use Rattle.st_ring.proofs.plans.PlannedRowRing.push.Goals as goal

-- the row is written after the youngest one
pub returns-clause-rows : goal.returns-clause-rows
returns-clause-rows c =
    let q = c.self.inside in
    let counted = length-window 8 q.head q.len q.slots c.self.invariant.inside (omega arith) (search rules) in
    let same = ap length c.self.view_is in
    let room : q.len < 8 = omega (arith, counted, same) in
    window-push 8 q.head q.len q.slots c.self.invariant.inside (omega arith) (search rules) _ room
    ∙ ap₂ (λ (rows : List PlannedRow) (row : PlannedRow). rows ++ row ∷ []) c.self.view_is c.plan_into.ensures
