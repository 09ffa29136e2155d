use Rattle.st_top.proofs.Common.{List, ℕ, [], ◌∷◌, ap, lines_then, lines_cut, calm_line, levels_lines}
use Rattle.st_top.proofs.Listings.{lines_are}
use Rattle.st_top.proofs.sweeping.write_sweep.Goals as goal

pub returns-in_err-write_levels : goal.returns-in_err-write_levels
returns-in_err-write_levels g c =
    lines_cut _ _ (levels_lines 1 c.args.swept.ticks) (calm_line c.args.swept.hazard_free ∷ []) _ c.from_residual.result c.from_residual.ensures.0
    c.in_err-write_levels.ensures

pub returns : goal.returns
returns g c =
    lines_then _ _ _ (levels_lines 1 c.args.swept.ticks) (calm_line c.args.swept.hazard_free ∷ []) _ _
    c.in_ok-write_levels.ensures (lines_are _ _ _ _ _ (ap (λ (l : List ℕ). l ∷ []) c.line_calm.ensures) c.put.ensures)
