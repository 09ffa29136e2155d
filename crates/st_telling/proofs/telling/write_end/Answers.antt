use Rattle.st_telling.proofs.Common.{◌∷◌, ◌++◌, refl, lines_then, lines_cut, end_line, done_line, ticks_line, block, line_if}
use Rattle.st_telling.proofs.Snapshots.{levels_cut, levels_then}
use Rattle.st_telling.proofs.telling.write_end.Goals as goal

pub returns-in_err-put : goal.returns-in_err-put
returns-in_err-put g c =
    let asked = c.args.controls.now in
    let m = c.args.moment in
    let rest = done_line m.done ∷ (line_if asked.time (ticks_line m.tick) ++ block asked.dumps c.args.seen.now) in
    levels_cut _ _ (end_line c.args.rests ∷ rest) (end_line c.args.rests) _ rest _ c.from_residual.result c.from_residual.ensures.0
    refl c.line_end.ensures c.in_err-put.ensures

pub returns-in_err-put-2 : goal.returns-in_err-put-2
returns-in_err-put-2 g c =
    let asked = c.args.controls.now in
    let m = c.args.moment in
    let more = line_if asked.time (ticks_line m.tick) ++ block asked.dumps c.args.seen.now in
    let rest = done_line m.done ∷ more in
    levels_then _ _ _ (end_line c.args.rests ∷ rest) (end_line c.args.rests) _ rest _ _ refl c.line_end.ensures c.in_ok-put.ensures
    (levels_cut _ _ rest (done_line m.done) _ more _ c.from_residual-in_err-put-2.result c.from_residual-in_err-put-2.ensures.0
    refl c.line_done.ensures c.in_err-put-2.ensures)

pub returns-in_err-write_ticks : goal.returns-in_err-write_ticks
returns-in_err-write_ticks g c =
    let asked = c.args.controls.now in
    let m = c.args.moment in
    let ticks = line_if asked.time (ticks_line m.tick) in
    let more = ticks ++ block asked.dumps c.args.seen.now in
    let rest = done_line m.done ∷ more in
    levels_then _ _ _ (end_line c.args.rests ∷ rest) (end_line c.args.rests) _ rest _ _ refl c.line_end.ensures c.in_ok-put.ensures
    (levels_then _ _ _ rest (done_line m.done) _ more _ _ refl c.line_done.ensures c.in_ok-put-2.ensures
    (lines_cut _ _ ticks (block asked.dumps c.args.seen.now) _ c.from_residual-in_err-write_ticks.result c.from_residual-in_err-write_ticks.ensures.0 c.in_err-write_ticks.ensures))

pub returns : goal.returns
returns g c =
    let asked = c.args.controls.now in
    let m = c.args.moment in
    let ticks = line_if asked.time (ticks_line m.tick) in
    let more = ticks ++ block asked.dumps c.args.seen.now in
    let rest = done_line m.done ∷ more in
    levels_then _ _ _ (end_line c.args.rests ∷ rest) (end_line c.args.rests) _ rest _ _ refl c.line_end.ensures c.in_ok-put.ensures
    (levels_then _ _ _ rest (done_line m.done) _ more _ _ refl c.line_done.ensures c.in_ok-put-2.ensures
    (lines_then _ _ _ ticks (block asked.dumps c.args.seen.now) _ _ c.in_ok-write_ticks.ensures c.write_state.ensures))
