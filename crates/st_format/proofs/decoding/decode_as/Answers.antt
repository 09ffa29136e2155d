use Rattle.st_format.proofs.Common.{sym, subst, ◌∙◌, arith, IsShape}
use Rattle.st_format.proofs.Shapes.{shape-instruction_of}
use Rattle.st_format.proofs.decoding.decode_as.Goals as goal

pub returns-clause-shape : goal.returns-clause-shape
returns-clause-shape c =
    subst IsShape (sym (c.spelled_by.ensures ∙ c.requires))
    (shape-instruction_of c.args.first c.args.second (omega arith) (omega arith))
