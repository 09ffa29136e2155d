use Rattle.st_fetch.proofs.Common.{◌<◌, drop, length, ap, ◌∙◌, arith}
use Rattle.st_fetch.proofs.Windows.{length-window, window-pop}
use Rattle.st_fetch.proofs.wants.Wants.pop.Goals as goal

-- the window moves by one slot
pub returns : goal.returns
returns c =
    let q = c.self.inside in
    let number = length-window 40 q.first q.len q.slots c.self.invariant.0 c.self.invariant.1 c.self.invariant.2 in
    let same = ap length c.self.view_is in
    let some : 0 < q.len = omega arith in
    rw c.slot-self-inside.ensures
    (window-pop 40 q.first q.len q.slots c.self.invariant.0 c.self.invariant.1 c.self.invariant.2 some
    ∙ ap (drop 1) c.self.view_is)
