use Rattle.st_lines.proofs.Common.{[], ◌∷◌, refl, end_line, done_line, ticks_line}
use Rattle.st_lines.proofs.LineLemmas.{put_one, put_then, put_cut}
use Rattle.st_lines.proofs.writing.write_totals.Goals as goal

pub returns-in_err-put : goal.returns-in_err-put
returns-in_err-put g c =
    put_cut _ _ _ (end_line c.args.rests) (done_line c.args.done ∷ ticks_line c.args.tick ∷ []) _ c.from_residual.result c.from_residual.ensures.0
    c.line_end.ensures c.in_err-put.ensures

pub returns-in_err-put-2 : goal.returns-in_err-put-2
returns-in_err-put-2 g c =
    put_then _ _ _ _ (end_line c.args.rests) _ (done_line c.args.done ∷ ticks_line c.args.tick ∷ []) _ _ c.line_end.ensures refl c.in_ok-put.ensures
    (put_cut _ _ _ (done_line c.args.done) (ticks_line c.args.tick ∷ []) _ c.from_residual-in_err-put-2.result c.from_residual-in_err-put-2.ensures.0
    c.line_done.ensures c.in_err-put-2.ensures)

pub returns : goal.returns
returns g c =
    put_then _ _ _ _ (end_line c.args.rests) _ (done_line c.args.done ∷ ticks_line c.args.tick ∷ []) _ _ c.line_end.ensures refl c.in_ok-put.ensures
    (put_then _ _ _ _ (done_line c.args.done) _ (ticks_line c.args.tick ∷ []) _ _ c.line_done.ensures refl c.in_ok-put-2.ensures
    (put_one _ _ _ _ _ c.line_ticks.ensures c.put-3.ensures))
