use Rattle.st_ring.proofs.Common.{◌<◌, List, length, drop, ap, ◌∙◌, arith, rules, length-window, window-pop, Level}
use Rattle.st_ring.proofs.ring.SpecRing.drop_oldest.Goals as goal

pub returns-clause-levels : goal.returns-clause-levels
returns-clause-levels g c =
    let q = c.self.inside in
    let counted = length-window 8 q.head q.len q.slots c.self.invariant.inside (omega arith) (search rules) in
    let same = ap length c.self.view_is in
    let some : 0 < q.len = omega (arith, counted, same) in
    window-pop 8 q.head q.len q.slots c.self.invariant.inside (omega arith) (search rules) some
    ∙ ap (λ (levels : List Level). drop 1 levels) c.self.view_is
