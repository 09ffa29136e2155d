use Rattle.st_top.proofs.Common.{[], nil_from_length, wrote_nothing, levels_cut, levels_then}
use Rattle.st_top.proofs.Listings.{lines_are}
use Rattle.st_top.proofs.Sweeps.{first_lines, no_lines}
use Rattle.st_top.proofs.sweeping.+write_levels.Goals as goal

pub returns-in_err-put : goal.returns-in_err-put
returns-in_err-put g t c =
    levels_cut _ _ _ _ _ _ _ _ c.from_residual.ensures.0 (first_lines _ _ _ _ c.in-Some.ensures.cases.0) c.line_levels.ensures c.in_err-put.ensures

pub returns : goal.returns
returns g t c =
    levels_then _ _ _ _ _ _ _ _ _ (first_lines _ _ _ _ c.in-Some.ensures.cases.0) c.line_levels.ensures c.in_ok-put.ensures c.write_levels.ensures

pub returns-in_default : goal.returns-in_default
returns-in_default g t c =
    lines_are _ _ [] _ _ (no_lines _ _ (nil_from_length _ c.in_default.ensures.cases)) (record { ok = wrote_nothing _; err = tt })
