use Rattle.st_ring.proofs.Common.{◌<◌, List, [], ◌∷◌, ◌++◌, length, ap, ◌∙◌, arith, rules, length-window, window-push, Level}
use Rattle.st_ring.proofs.ring.SpecRing.push.Goals as goal

-- the level is written after the youngest one
pub returns-clause-levels : goal.returns-clause-levels
returns-clause-levels g c =
    let q = c.self.inside in
    let counted = length-window 8 q.head q.len q.slots c.self.invariant.inside (omega arith) (search rules) in
    let same = ap length c.self.view_is in
    let room : q.len < 8 = omega (arith, counted, same) in
    window-push 8 q.head q.len q.slots c.self.invariant.inside (omega arith) (search rules) c.args.level room
    ∙ ap (λ (levels : List Level). levels ++ c.args.level ∷ []) c.self.view_is
