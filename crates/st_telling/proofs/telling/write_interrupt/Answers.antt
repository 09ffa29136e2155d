use Rattle.st_telling.proofs.Common.{◌∷◌, ◌++◌, refl, lines_then, lines_cut, int_line, time_line, block, line_if}
use Rattle.st_telling.proofs.Snapshots.{levels_cut, levels_then}
use Rattle.st_telling.proofs.telling.write_interrupt.Goals as goal

pub returns-in_err-put : goal.returns-in_err-put
returns-in_err-put g c =
    let asked = c.args.controls.now in
    let m = c.args.moment in
    let rest = line_if asked.time (time_line m.tick) ++ block asked.dumps c.args.seen.now in
    levels_cut _ _ (int_line c.args.i m.done ∷ rest) (int_line c.args.i m.done) _ rest _
    c.from_residual.result c.from_residual.ensures.0 refl c.line_int.ensures c.in_err-put.ensures

pub returns-in_err-write_time : goal.returns-in_err-write_time
returns-in_err-write_time g c =
    let asked = c.args.controls.now in
    let m = c.args.moment in
    let time = line_if asked.time (time_line m.tick) in
    let rest = time ++ block asked.dumps c.args.seen.now in
    levels_then _ _ _ (int_line c.args.i m.done ∷ rest) (int_line c.args.i m.done) _ rest _ _ refl c.line_int.ensures c.in_ok-put.ensures
    (lines_cut _ _ time (block asked.dumps c.args.seen.now) _ c.from_residual-in_err-write_time.result c.from_residual-in_err-write_time.ensures.0 c.in_err-write_time.ensures)

pub returns : goal.returns
returns g c =
    let asked = c.args.controls.now in
    let m = c.args.moment in
    let time = line_if asked.time (time_line m.tick) in
    let rest = time ++ block asked.dumps c.args.seen.now in
    levels_then _ _ _ (int_line c.args.i m.done ∷ rest) (int_line c.args.i m.done) _ rest _ _ refl c.line_int.ensures c.in_ok-put.ensures
    (lines_then _ _ _ time (block asked.dumps c.args.seen.now) _ _ c.in_ok-write_time.ensures c.write_state.ensures)
