use Rattle.st_telling.proofs.Common.{lines_then, lines_cut, trc_line, row_line, line_if}
use Rattle.st_telling.proofs.telling.write_done.Goals as goal

pub returns-in_err-write_trace : goal.returns-in_err-write_trace
returns-in_err-write_trace g c =
    let asked = c.args.controls.now in
    let row = c.args.row in
    lines_cut _ _ (line_if asked.trace (trc_line c.args.row.number row.address)) (line_if asked.chart (row_line c.args.row.number row.address row.p row.r row.c)) _
    c.from_residual.result c.from_residual.ensures.0 c.in_err-write_trace.ensures

pub returns : goal.returns
returns g c =
    let asked = c.args.controls.now in
    let row = c.args.row in
    lines_then _ _ _ (line_if asked.trace (trc_line c.args.row.number row.address)) (line_if asked.chart (row_line c.args.row.number row.address row.p row.r row.c)) _ _
    c.in_ok-write_trace.ensures c.write_row.ensures
