use Rattle.st_ring.proofs.Common.{◌≡◌, ◌+◌, ◌-◌, ap, sym, ◌∙◌, arith, rules, window-youngest}
use Rattle.st_fetch.specs.Queue.{window}
use Rattle.st_ring.proofs.ring.SpecRing.take_youngest.Goals as goal

pub returns-clause-level : goal.returns-clause-level
returns-clause-level g c =
    let q = c.self.inside in
    let one_less : q.len ≡ q.len - 1 + 1 = omega arith in
    sym c.self.view_is
    ∙ (ap (λ n. window q.head n q.slots) one_less
    ∙ window-youngest 8 q.head (q.len - 1) q.slots c.self.invariant.inside (omega arith) (search rules) _ (omega arith))
