use Rattle.st_lines.proofs.Common.{refl, ledger_levels_line, delays_lines}
use Rattle.st_lines.proofs.LineLemmas.{put_then, put_cut}
use Rattle.st_lines.proofs.writing.write_machine.Goals as goal

pub returns-in_err-put : goal.returns-in_err-put
returns-in_err-put g c =
    put_cut _ _ _ (ledger_levels_line c.args.n) (delays_lines c.args.ds.now) _ c.from_residual.result c.from_residual.ensures.0 c.line_levels.ensures
    c.in_err-put.ensures

pub returns : goal.returns
returns g c =
    put_then _ _ _ _ (ledger_levels_line c.args.n) _ (delays_lines c.args.ds.now) _ _ c.line_levels.ensures refl c.in_ok-put.ensures c.write_delays.ensures
