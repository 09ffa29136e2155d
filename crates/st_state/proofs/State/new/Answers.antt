use Rattle.st_state.proofs.Common.{ℕ, List, sym, subst, IsMachine, opening_state}
use Rattle.st_state.proofs.Kept.{is_machine-opening}
use Rattle.st_state.proofs.State.new.Goals as goal

pub invariant_of-result : goal.invariant_of-result
invariant_of-result c =
    let P : List ℕ → Type 0 = λ xs. IsMachine (opening_state xs c.args.start) in
    rw c.fix_register.ensures
    (subst P (sym c.in-Ok.ensures.items)
    (is_machine-opening
    c.args.image.now c.args.start c.requires.image.size c.requires.image.registers
    (λ w. (c.type_inv.image w).fits) c.requires.counter))

pub returns-clause-machine : goal.returns-clause-machine
returns-clause-machine c = invariant_of-result c
