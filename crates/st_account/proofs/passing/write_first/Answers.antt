use Rattle.st_account.proofs.Common.{lines_cut, lines_then, whole_state_lines, line_of_start}
use Rattle.st_account.proofs.passing.write_first.Goals as goal

pub returns-in_err-write_whole_state : goal.returns-in_err-write_whole_state
returns-in_err-write_whole_state g c =
    lines_cut _ _ (whole_state_lines c.args.state.now) (line_of_start c.args.k c.args.start.now) _ c.from_residual.result c.from_residual.ensures.0
    c.in_err-write_whole_state.ensures

pub returns : goal.returns
returns g c =
    lines_then _ _ _ (whole_state_lines c.args.state.now) (line_of_start c.args.k c.args.start.now) _ _ c.in_ok-write_whole_state.ensures c.write_start.ensures
