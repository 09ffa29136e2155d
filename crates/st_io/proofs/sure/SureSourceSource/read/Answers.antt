use Rattle.st_io.proofs.Common.{refl, arith}
use Rattle.st_io.proofs.MemoryLemmas.{gave_front}
use Rattle.st_io.proofs.sure.SureSourceSource.read.Goals as goal

pub returns-clause-outcome : goal.returns-clause-outcome
returns-clause-outcome c = rw (c.copy_from_slice.ensures.after, c.deref.ensures.value, ← c.self.view_is) (gave_front _ _ _ _ _ c.self.invariant (omega arith) refl (rw c.deref.ensures.value at c.min-n.ensures))
