use Rattle.st_top.proofs.Common.{refl, stopped_at_moment, sweep_lines}
use Rattle.st_top.proofs.Sweeps.{swept_all}
use Rattle.st_top.proofs.sweeping.answer_swept.Goals as goal

pub returns-in-Ok : goal.returns-in-Ok
returns-in-Ok g c = λ delays. swept_all _ _ delays c.args.swept _ c.in-Ok.ensures.ok refl refl refl

pub returns-in-Err : goal.returns-in-Err
returns-in-Err g c = λ delays. stopped_at_moment _ _ 0 0 (sweep_lines c.args.swept) c.in-Err.ensures.err
