use Rattle.st_ring.proofs.Common.{◌<◌, ◌∷◌, List, length, drop, get_or, ap, sym, ◌∙◌, arith, rules, length-window, window-oldest, Level}
use Rattle.st_ring.proofs.ring.SpecRing.oldest.Goals as goal

pub returns-clause-level : goal.returns-clause-level
returns-clause-level g c =
    let q = c.self.inside in
    let counted = length-window 8 q.head q.len q.slots c.self.invariant.inside (omega arith) (search rules) in
    let same = ap length c.self.view_is in
    let some : 0 < q.len = omega (arith, counted, same) in
    sym c.self.view_is
    ∙ window-oldest 8 q.head q.len q.slots c.self.invariant.inside (omega arith) (search rules) _ some
    ∙ ap (λ (levels : List Level). get_or q.slots q.head _ ∷ drop 1 levels) c.self.view_is
