use Rattle.st_top.proofs.Common.{◌≡◌, false, refl, subst, rests, scene_at, Beside, IsBesideReady, IsStepped}
use Rattle.st_top.proofs.Besides.{stepped_by}
use Rattle.st_top.proofs.beside.step.Goals as goal

pub returns : goal.returns
returns c going =
    let i = c.second.inside in
    let t = c.forth.new.state in
    subst {A = Beside} (λ b. rests b.0.machine ≡ false → IsBesideReady b → IsStepped b (scene_at t i.pending, c.forth.new.self)) c.second.view_is
    (λ goes ready. stepped_by i.noted.steps c.forth.new.self (scene_at i.noted.state i.pending) _ t c.forth.result ready goes
    c.forth.ensures.step c.forth.ensures.kept refl) going c.requires.ready
