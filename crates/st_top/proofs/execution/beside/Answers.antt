use Rattle.st_top.proofs.Common.{Back, ◌≡◌, ◌≢◌, ◌≤◌, ◌∙◌, ap, arith, Asked, none_of, Scene}
use Rattle.st_top.proofs.Besides.{begins_beside}
use Rattle.st_top.proofs.Starts.{scene_is}
use Rattle.st_top.proofs.execution.beside.Goals as goal

pub returns-clause-start : goal.returns-clause-start
returns-clause-start c =
    let back = c.args.controls.now.back in
    let deep : c.controls.inside.back ≡ back = ap (λ (a : Asked). a.back) c.controls.view_is in
    let other : back ≢ 0 = λ none. c.if-depth-eq0.false (deep ∙ none) in
    let some : 1 ≤ back = omega (arith, other) in
    let scene = scene_is c.new-3.result.0 _ _ _ _ _ _ c.new-3.ensures.scene c.in_ok-machine.ensures.value c.signals.ensures c.in_ok-hopper.ensures in (
      begins_beside back c.new-3.result.1 c.new-3.result.0 some (c.requires.limits.once Back) (c.new-3.ensures.steps ∙ (c.in_ok-steps.ensures ∙ ap none_of deep))
          (ap (λ (e : Scene). e.machine.reader) scene),
      scene,
    )

pub returns-clause-ready : goal.returns-clause-ready
returns-clause-ready c =
    let back = c.args.controls.now.back in
    let deep : c.controls.inside.back ≡ back = ap (λ (a : Asked). a.back) c.controls.view_is in
    let other : back ≢ 0 = λ none. c.if-depth-eq0.false (deep ∙ none) in
    let some : 1 ≤ back = omega (arith, other) in
    let scene = scene_is c.new-3.result.0 _ _ _ _ _ _ c.new-3.ensures.scene c.in_ok-machine.ensures.value c.signals.ensures c.in_ok-hopper.ensures in
    record {
      fresh = ap (λ (e : Scene). e.machine.done) scene;
      ready = (begins_beside back c.new-3.result.1 c.new-3.result.0 some (c.requires.limits.once Back) (c.new-3.ensures.steps ∙ (c.in_ok-steps.ensures ∙ ap none_of deep))
          (ap (λ (e : Scene). e.machine.reader) scene)).ready;
    }

pub new-requires-2-clause-few : goal.new-requires-2-clause-few
new-requires-2-clause-few c =
    let deep : c.controls.inside.back ≡ c.args.controls.now.back = ap (λ (a : Asked). a.back) c.controls.view_is in
    rw deep (c.requires.limits.once Back)
