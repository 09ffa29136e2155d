use Rattle.st_top.proofs.Common.{[], ◌∷◌, lines_more, lines_failed}
use Rattle.st_top.proofs.ObjectTexts.{ended_next}
use Rattle.st_top.proofs.objects.write_ended.Goals as goal

pub returns-in_err-write_line : goal.returns-in_err-write_line
returns-in_err-write_line g c =
    lines_failed _ _ _ _ _ _ c.from_residual.result c.from_residual.ensures.0
    (ended_next _ _ _ c.lines.rest.now c.in-Some.line.now c.in-Some.after.now c.split_at.result.0.now
    c.in-Some.ensures.pieces c.in-Some.ensures.whole c.split_at.ensures.front c.lines.invariant)
    c.in_err-write_line.ensures.err

pub lines-preserved : goal.lines-preserved
lines-preserved g c =
    lines_more _ _ _ _ (c.split_at.result.0.now ∷ []) _
    (ended_next _ _ _ c.lines.rest.now c.in-Some.line.now c.in-Some.after.now c.split_at.result.0.now
    c.in-Some.ensures.pieces c.in-Some.ensures.whole c.split_at.ensures.front c.lines.invariant)
    c.in_ok-write_line.ensures.ok
