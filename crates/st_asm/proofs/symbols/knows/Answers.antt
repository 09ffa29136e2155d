use Rattle.st_asm.proofs.Common.{◌∙◌, ap, is_some}
use Rattle.st_asm.proofs.ValueLemmas.{terms-known}
use Rattle.st_asm.proofs.symbols.knows.Goals as goal

pub returns : goal.returns
returns c = c.is_some.ensures ∙ (ap is_some c.value.ensures ∙ terms-known c.args.symbols.now c.args.expr.now.items)
