use Rattle.st_lines.proofs.Common.{refl}
use Rattle.st_lines.proofs.LineLemmas.{none_if, some_if}
use Rattle.st_lines.proofs.writing.write_ended.Goals as goal

pub returns-then-not-ends : goal.returns-then-not-ends
returns-then-not-ends g c = none_if _ c.args.ends _ _ c.if-not-ends.true

pub returns : goal.returns
returns g c = some_if _ _ c.args.ends _ _ _ c.if-not-ends.false refl c.write_end.ensures
