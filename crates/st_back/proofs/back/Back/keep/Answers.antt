use Rattle.st_back.proofs.Common.{sym, subst, steps, AreStepsSound, step_at}
use Rattle.st_back.proofs.RingLemmas.{fresh-sound, pushed-sound}
use Rattle.st_back.proofs.back.Back.keep.Goals as goal

pub invariant_of-self : goal.invariant_of-self
invariant_of-self c =
    subst (λ b. AreStepsSound (steps b)) (sym c.push_back.ensures.items)
    (pushed-sound (steps c.self.inside.ring) (step_at c.args.trail) c.self.invariant (fresh-sound c.args.trail c.requires))
