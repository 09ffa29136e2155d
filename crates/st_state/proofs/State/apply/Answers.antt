use Rattle.st_state.proofs.Common.{refl, subst, arith, register_word, words_of_storage, IsMachine, machine}
use Rattle.st_state.proofs.Kept.{is_machine-with_word}
use Rattle.st_state.proofs.State.apply.Goals as goal

pub invariant_of-self : goal.invariant_of-self
unfolding register_word words_of_storage
invariant_of-self c =
    is_machine-with_word
    (machine c.self.inside) 11 c.turned.result c.self.invariant (omega arith)
    c.turned.type_inv refl

pub returns-clause-before : goal.returns-clause-before
returns-clause-before c = subst IsMachine c.self.view_is c.self.invariant

pub returns-clause-after : goal.returns-clause-after
returns-clause-after c = invariant_of-self c
