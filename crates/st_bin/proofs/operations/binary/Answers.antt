use Rattle.std.proofs.Common.{subst}
use Rattle.st_field.specs.Fields.{HasRoom}
use Rattle.st_field.proofs.ResultLaws.{result_of-fits}
use Rattle.st_bin.proofs.ResultLaws.{keeps_length}
use Rattle.st_bin.proofs.operations.binary.Goals as goal

pub returns-clause-field : goal.returns-clause-field
returns-clause-field c =
    rw (c.operate.ensures, c.take-taken.ensures.value)
    (result_of-fits _ _ _ _ _ c.requires.shape (subst (λ t. HasRoom t.field c.args.shape.now) c.take-taken.ensures.value c.take-taken.ensures.room) (keeps_length _))
