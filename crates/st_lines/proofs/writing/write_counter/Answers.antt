use Rattle.st_lines.proofs.Common.{[], ◌∷◌, ◌∙◌, ap, ic_line, en_lines}
use Rattle.st_lines.proofs.LineLemmas.{no_lines, en-none, en-first, en-changed, put_then, put_cut}
use Rattle.st_lines.proofs.writing.write_counter.Goals.{else-k-ne0-via-then-k-ne0+else-was-enabled, else-k-ne0-via-else-k-ne0}
use Rattle.st_lines.proofs.writing.write_counter.Goals as goal

pub returns-in_err-write_line : goal.returns-in_err-write_line
returns-in_err-write_line g c =
    put_cut _ _ _ (ic_line c.args.ic) (en_lines c.args.k c.args.was c.args.enabled) _ c.from_residual.result c.from_residual.ensures.0
    (c.as_bytes.ensures ∙ c.fill_counter.ensures) c.in_err-write_line.ensures

pub returns-then-was-enabled : goal.returns-then-was-enabled
returns-then-was-enabled g c =
    put_then _ _ _ _ (ic_line c.args.ic) _ _ _ _ (c.as_bytes.ensures ∙ c.fill_counter.ensures)
    (en-none c.args.k c.args.was c.args.enabled c.if-k-ne0.true c.if-was-enabled.true) c.in_ok-write_line.ensures (no_lines _ _)

pub returns : goal.returns
returns g c =
    put_then _ _ _ _ (ic_line c.args.ic) _ _ _ _ (c.as_bytes.ensures ∙ c.fill_counter.ensures)
    (ap (λ l. l ∷ []) c.line_en.ensures ∙ elim c.else-k-ne0.branch [
      | else-k-ne0-via-then-k-ne0+else-was-enabled w ↦ en-changed c.args.k c.args.was c.args.enabled w.if-k-ne0.true w.if-was-enabled.false
      | else-k-ne0-via-else-k-ne0 w ↦ en-first c.args.k c.args.was c.args.enabled w.if-k-ne0.false
    ])
    c.in_ok-write_line.ensures c.put.ensures
