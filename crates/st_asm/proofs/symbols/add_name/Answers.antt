use Rattle.st_asm.proofs.TableLemmas.{defined-now}
use Rattle.st_asm.proofs.symbols.add_name.Goals as goal

pub returns-in-Ok : goal.returns-in-Ok
returns-in-Ok c = defined-now _ _ _ _ _ c.in-Ok.ensures.ok
