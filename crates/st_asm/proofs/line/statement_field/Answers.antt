use Rattle.st_asm.proofs.Common.{List, ℕ, length, ap, ◌∙◌, arith, length-take, length-drop}
use Rattle.st_asm.proofs.line.statement_field.Goals as goal

pub returns-clause-short : goal.returns-clause-short
returns-clause-short c =
    let read = ap (λ (s : List ℕ). length s) c.columns.ensures ∙ length-take 72 c.args.text.now in
    let left = ap (λ (s : List ℕ). length s) c.behind.ensures ∙ length-drop 9 c.columns.result.now in
    omega (arith, read, left)
