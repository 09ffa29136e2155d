use Rattle.st_asm.proofs.Common.{◌∙◌, sym, read-is}
use Rattle.st_asm.proofs.alone.emitted_alone.Goals as goal

pub emitted_by-requires : goal.emitted_by-requires
emitted_by-requires c = read-is _ _ _ (sym c.read_compact.ensures ∙ c.in-Ok.is)
