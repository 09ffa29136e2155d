use Rattle.st_top.proofs.Common.{Budget, ◌≤◌, rules, arith, refl, scene_at_start}
use Rattle.st_top.proofs.Starts.{scene_is, rest_is, is_scene}
use Rattle.st_top.proofs.execution.prepare.Goals as goal

pub returns-clause-rest : goal.returns-clause-rest
returns-clause-rest c =
    let asked = c.args.controls.now in
    rest_is _ asked _ _ _ _ (scene_at_start c.args.image.now c.args.start asked c.args.job.now.text.now) c.new-run.ensures.rest c.in_ok-delays.ensures c.budget.ensures
    (scene_is _ _ _ _ _ _ _ refl c.in_ok-state.ensures.value c.signals.ensures c.in_ok-hopper.ensures.value) c.snaps.ensures

pub returns-clause-scene : goal.returns-clause-scene
returns-clause-scene c =
    is_scene c.args.image.now c.args.start c.args.controls.now c.args.job.now.text.now _ _ c.in_ok-state.ensures.value c.in_ok-state.ensures.machine
    c.in_ok-hopper.ensures.value c.in_ok-hopper.ensures.shape

pub new-run-requires : goal.new-run-requires
new-run-requires c =
    let few : c.args.controls.now.budget ≤ 10000000 = c.requires.limits.once Budget in
    search (rules, arith, few)
