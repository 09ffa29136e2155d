use Rattle.st_dec.proofs.Common.{subst, HasRoom}
use Rattle.st_field.proofs.ResultLaws.{result_of-fits}
use Rattle.st_dec.proofs.ResultLaws.{keeps_length}
use Rattle.st_dec.proofs.operations.decimal.Goals as goal

pub returns-clause-field : goal.returns-clause-field
returns-clause-field c =
    rw (c.operate.ensures, c.take.ensures.value)
    (result_of-fits _ _ _ _ _ c.requires.shape.shape (subst (λ t. HasRoom t.field c.args.shape.now) c.take.ensures.value c.take.ensures.room) (keeps_length _ c.requires.shape))
