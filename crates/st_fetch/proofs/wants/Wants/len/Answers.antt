use Rattle.st_fetch.proofs.Common.{length, sym, ap, ◌∙◌}
use Rattle.st_fetch.proofs.Windows.{length-window}
use Rattle.st_fetch.proofs.wants.Wants.len.Goals as goal

pub returns-clause-value : goal.returns-clause-value
returns-clause-value c =
    let q = c.self.inside in
    sym (length-window 40 q.first q.len q.slots c.self.invariant.0 c.self.invariant.1 c.self.invariant.2)
    ∙ ap length c.self.view_is
