use Rattle.st_asm.proofs.Common.{◌∙◌, sym, ap, is_name_taken, named_in, is_defined}
use Rattle.st_asm.proofs.FaultLemmas.{fresh-name}
use Rattle.st_asm.proofs.naming.name_line.Goals as goal

pub add_line-requires-clause-fresh : goal.add_line-requires-clause-fresh
add_line-requires-clause-fresh c =
    ap (λ t. is_name_taken t c.args.line.now.name) c.requires.kept.table_is
    ∙ fresh-name (is_defined c.args.all.now) (named_in c.args.names.now) c.args.line.now
    (sym c.name_fault.ensures ∙ c.in-None.is)
