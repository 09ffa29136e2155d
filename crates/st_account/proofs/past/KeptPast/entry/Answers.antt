use Rattle.st_account.proofs.Common.{List, length, get_or, sym, ap, ◌∙◌, length-window, get_or-window, Past}
use Rattle.st_account.proofs.past.KeptPast.entry.Goals as goal

pub returns-clause-value : goal.returns-clause-value
returns-clause-value c =
    let q = c.self.inside in
    sym (get_or-window 8 q.head 8 q.entries c.self.invariant.inside c.self.invariant.few c.self.invariant.whole c.args.n _ c.requires)
    ∙ ap (λ (past : List Past). get_or past c.args.n _) c.self.view_is

pub returns-clause-whole : goal.returns-clause-whole
returns-clause-whole c =
    let q = c.self.inside in
    ap (λ (past : List Past). length past) (sym c.self.view_is)
    ∙ length-window 8 q.head 8 q.entries c.self.invariant.inside c.self.invariant.few c.self.invariant.whole
