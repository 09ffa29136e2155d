use Rattle.st_telling.proofs.Common.{[], ◌∷◌, ◌++◌, subst, Ok, Err, WritesLines, lines_then, lines_cut, snap_line, Machine, levels_standing, block, views_lines}
use Rattle.st_telling.proofs.Snapshots.{writes_views}
use Rattle.st_telling.proofs.telling.write_shown.Goals as goal

pub returns-in_err-write_snap : goal.returns-in_err-write_snap
returns-in_err-write_snap g c =
    let asked = c.args.controls.now in
    let shown = c.view-view.result.levels in
    let first = snap_line c.args.moment.tick c.args.moment.done (levels_standing shown) ∷ [] in
    let state = block asked.dumps c.args.run.now.seen in
    writes_views _ _ asked c.args.moment.done c.args.moment.tick c.args.run.now.seen shown c.args.run.now.ahead _ c.view-view.ensures.levels
    (lines_cut _ _ first (state ++ views_lines shown) _ c.from_residual.result c.from_residual.ensures.0 c.in_err-write_snap.ensures)

pub returns-in_err-write_state : goal.returns-in_err-write_state
returns-in_err-write_state g c =
    let asked = c.args.controls.now in
    let shown = c.view-view.result.levels in
    let first = snap_line c.args.moment.tick c.args.moment.done (levels_standing shown) ∷ [] in
    let state = block asked.dumps c.args.run.now.seen in
    let written = subst (λ (m : Machine). WritesLines (g.K.Sink.output c.write_snap.new.out) (g.K.Sink.output c.write_state.new.out)
    (block asked.dumps m) (Err c.in_err-write_state.field-0.0)) c.seen.ensures.seen c.in_err-write_state.ensures in
    writes_views _ _ asked c.args.moment.done c.args.moment.tick c.args.run.now.seen shown c.args.run.now.ahead _ c.view-view.ensures.levels
    (lines_then _ _ _ first (state ++ views_lines shown) _ _ c.in_ok-write_snap.ensures
    (lines_cut _ _ state (views_lines shown) _ c.from_residual-in_err-write_state.result c.from_residual-in_err-write_state.ensures.0 written))

pub returns : goal.returns
returns g c =
    let asked = c.args.controls.now in
    let shown = c.view-view.result.levels in
    let first = snap_line c.args.moment.tick c.args.moment.done (levels_standing shown) ∷ [] in
    let state = block asked.dumps c.args.run.now.seen in
    let written = subst (λ (m : Machine). WritesLines (g.K.Sink.output c.write_snap.new.out) (g.K.Sink.output c.write_state.new.out)
    (block asked.dumps m) (Ok c.in_ok-write_state.field-0)) c.seen.ensures.seen c.in_ok-write_state.ensures in
    writes_views _ _ asked c.args.moment.done c.args.moment.tick c.args.run.now.seen shown c.args.run.now.ahead _ c.view-view.ensures.levels
    (lines_then _ _ _ first (state ++ views_lines shown) _ _ c.in_ok-write_snap.ensures
    (lines_then _ _ _ state (views_lines shown) _ _ written c.write_levels.ensures))
