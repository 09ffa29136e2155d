use Rattle.st_account.proofs.Common.{◌∷◌, List, take, ap, ◌∙◌, Past}
use Rattle.st_account.proofs.PastLemmas.{window-put}
use Rattle.st_account.proofs.past.KeptPast.put.Goals as goal

pub returns : goal.returns
returns c =
    let q = c.self.inside in
    window-put q.head q.entries c.args.newest c.self.invariant.inside c.self.invariant.whole
    ∙ ap (λ (past : List Past). c.args.newest ∷ take 7 past) c.self.view_is
