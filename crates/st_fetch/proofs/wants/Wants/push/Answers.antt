use Rattle.st_fetch.proofs.Common.{◌∷◌, [], ◌++◌, ◌<◌, List, length, ap, ◌∙◌, arith}
use Rattle.st_fetch.specs.declared.wants.Want.{Want}
use Rattle.st_fetch.proofs.Windows.{length-window, window-push}
use Rattle.st_fetch.proofs.wants.Wants.push.Goals as goal

-- the write is after the last pending read, since the queue is not full
pub returns : goal.returns
returns c =
    let q = c.self.inside in
    let number = length-window 40 q.first q.len q.slots c.self.invariant.0 c.self.invariant.1 c.self.invariant.2 in
    let same = ap length c.self.view_is in
    let room : q.len < 40 = omega arith in
    rw c.slot.ensures
    (window-push 40 q.first q.len q.slots c.self.invariant.0 c.self.invariant.1 c.self.invariant.2 c.args.want room
    ∙ ap (λ (wants : List Want). wants ++ c.args.want ∷ []) c.self.view_is)
