use Rattle.st_telling.proofs.Snapshots.{levels_cut, levels_then}
use Rattle.st_telling.proofs.telling.+write_levels.Goals as goal

pub returns-in_err-put : goal.returns-in_err-put
returns-in_err-put g t c = levels_cut _ _ _ _ _ _ _ _ c.from_residual.ensures.0 c.in-Some.ensures.lines c.level_line.ensures c.in_err-put.ensures

pub returns : goal.returns
returns g t c = levels_then _ _ _ _ _ _ _ _ _ c.in-Some.ensures.lines c.level_line.ensures c.in_ok-put.ensures c.write_levels.ensures
