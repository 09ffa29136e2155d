use Rattle.st_lines.proofs.Common.{[], ◌∷◌, ap}
use Rattle.st_lines.proofs.LineLemmas.{none_if, some_if}
use Rattle.st_lines.proofs.writing.write_start.Goals as goal

pub returns-then-not-border : goal.returns-then-not-border
returns-then-not-border g c = none_if _ c.args.border.now.begins _ _ c.if-not-border.true

pub returns : goal.returns
returns g c = some_if _ _ c.args.border.now.begins _ _ _ c.if-not-border.false (ap (λ l. l ∷ []) c.line_start.ensures) c.put.ensures
