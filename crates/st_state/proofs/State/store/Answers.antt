use Rattle.st_state.proofs.Common.{register_word, fixed-twice, fixed_below, machine}
use Rattle.st_state.proofs.Kept.{is_machine-with_word}
use Rattle.st_state.proofs.State.store.Goals as goal

pub invariant_of-self : goal.invariant_of-self
invariant_of-self c =
    rw c.fixed_word.ensures
    (is_machine-with_word
    (machine c.self.inside) c.args.w (register_word c.args.w c.args.value) c.self.invariant c.requires
    (fixed_below c.args.w c.args.value c.ranges.value.fits) (fixed-twice c.args.w c.args.value))
