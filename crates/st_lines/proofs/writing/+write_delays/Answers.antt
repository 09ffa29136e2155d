use Rattle.st_lines.proofs.Common.{length, sym, ◌∙◌, ap, arith, eqb-true, length-take, delays_line}
use Rattle.st_lines.proofs.ChangeLemmas.{not-zero}
use Rattle.st_lines.proofs.LineLemmas.{no_lines, delays_all, delays_cut, delays_then}
use Rattle.st_lines.proofs.writing.+write_delays.Goals as goal

pub returns-then-is_empty : goal.returns-then-is_empty
returns-then-is_empty g t c =
    delays_all _ _ c.args.ds.now _ (eqb-true (length c.args.ds.now) 0 (sym c.is_empty.ensures ∙ c.if-is_empty.true)) (no_lines _ _)

pub line_delays-requires : goal.line_delays-requires
line_delays-requires g t c = omega (arith, ap length c.front.ensures, length-take 10 c.args.ds.now)

pub returns-in_err-put : goal.returns-in_err-put
returns-in_err-put g t c =
    delays_cut _ _ c.args.ds.now _ _ _ c.from_residual.ensures.0 (not-zero (length c.args.ds.now) (sym c.is_empty.ensures ∙ c.if-is_empty.false))
    (c.line_delays.ensures ∙ ap delays_line c.front.ensures) c.in_err-put.ensures

pub returns : goal.returns
returns g t c =
    delays_then _ _ _ c.args.ds.now _ c.behind.result.now _ _ (not-zero (length c.args.ds.now) (sym c.is_empty.ensures ∙ c.if-is_empty.false))
    (c.line_delays.ensures ∙ ap delays_line c.front.ensures) c.behind.ensures c.in_ok-put.ensures c.write_delays.ensures
