use Rattle.st_run.proofs.Common.{◌∙◌, ap, map, levels_of, Together}
use Rattle.st_run.proofs.LevelLemmas.{ahead_row, same-levels}
use Rattle.st_run.proofs.leaving.levels_ahead.Goals as goal

pub returns : goal.returns
returns g c =
    let m = c.driven.inside.machine in
    c.levels_in.ensures
    ∙ same-levels _ _ _ c.ring.result.now (levels_of m) c.ring.ensures.levels
    ∙ ap (λ (t : Together). map ahead_row (levels_of t.machine)) c.driven.view_is
