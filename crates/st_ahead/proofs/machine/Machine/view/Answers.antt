use Rattle.st_ahead.proofs.Common.{view_at_tick}
use Rattle.st_ahead.proofs.Views.{view-shown, eight-shown}
use Rattle.st_ahead.proofs.machine.Machine.view.Goals as goal

pub returns : goal.returns
returns g c =
    let m = c.args.self.now in
    view-shown m c.last_tick.result c.done.result c.index.result.now _ c.last_tick.ensures c.done.ensures c.index.ensures
    (eight-shown (view_at_tick m).levels c.level.result c.level-2.result c.level-3.result c.level-4.result c.level-5.result c.level-6.result c.level-7.result c.level-8.result
    c.level.ensures.eight c.level.ensures.value c.level-2.ensures.value c.level-3.ensures.value c.level-4.ensures.value
    c.level-5.ensures.value c.level-6.ensures.value c.level-7.ensures.value c.level-8.ensures.value)
