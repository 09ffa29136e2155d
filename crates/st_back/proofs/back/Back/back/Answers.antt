use Rattle.st_back.proofs.Common.{sym, subst, Steps, steps, IsUndone}
use Rattle.st_back.proofs.RingLemmas.{back-made}
use Rattle.st_back.proofs.back.Back.back.Goals as goal

pub returns : goal.returns
returns c =
    let q = c.in-Some.ensures in
    subst (λ (old : Steps). IsUndone old (steps c.pop_back.new.self) c.args.state.now c.undo.new.state) c.self.view_is
    (back-made c.self.inside.ring c.pop_back.new.self c.in-Some.kept _ _ (sym q.value) c.undo.ensures q.items)
