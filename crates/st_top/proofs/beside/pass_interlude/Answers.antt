use Rattle.st_top.proofs.Common.{sym, subst, interlude, scene_at, Beside, IsBesideReady, IsMoved}
use Rattle.st_top.proofs.Besides.{moved_between}
use Rattle.st_top.proofs.beside.pass_interlude.Goals as goal

pub between-requires : goal.between-requires
between-requires c = subst {A = Beside} IsBesideReady (sym c.second.view_is) c.requires

pub returns : goal.returns
returns c =
    let i = c.second.inside in
    let n = c.between.new.machine in
    let y = c.between.new.pending in
    subst {A = Beside} (λ b. IsBesideReady b → IsMoved b (scene_at n.state y, n.steps) (interlude b.0).scene) c.second.view_is
    (λ ready. moved_between i.noted n i.pending y ready c.between.ensures.scene c.between.ensures.rest) c.requires
