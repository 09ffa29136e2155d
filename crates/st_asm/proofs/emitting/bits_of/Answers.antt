use Rattle.st_asm.proofs.Common.{subst, IsTrue, fits}
use Rattle.st_asm.proofs.FieldLemmas.{holds-below}
use Rattle.st_asm.proofs.emitting.bits_of.Goals as goal

pub field_of-requires-clause-few : goal.field_of-requires-clause-few
unfolding fits
field_of-requires-clause-few c =
    holds-below c.in-Data.form c.in-Data.minus c.in-Data.number
    (subst (λ s. IsTrue (fits s c.args.v)) c.in-Data.is c.requires.fits)
