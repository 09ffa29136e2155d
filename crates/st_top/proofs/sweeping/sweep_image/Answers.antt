use Rattle.st_top.proofs.Common.{Budget, arith}
use Rattle.st_top.proofs.Sweeps.{delays_last, swept_is, sweeps_scene}
use Rattle.st_top.proofs.sweeping.sweep_image.Goals as goal

pub sweep-requires-clause-delays : goal.sweep-requires-clause-delays
sweep-requires-clause-delays c = delays_last c.args.controls.now.delays _ c.requires.limits.delays.each c.delays.ensures

pub returns-clause-value : goal.returns-clause-value
returns-clause-value c =
    swept_is _ c.args.image.now c.args.start c.args.controls.now _ _ _ c.sweep.ensures.value c.delays.ensures c.budget.ensures c.signals.ensures

pub returns-clause-scene : goal.returns-clause-scene
returns-clause-scene c =
    sweeps_scene c.args.image.now c.args.start c.args.controls.now c.requires.image.size c.requires.image.registers
    (λ w. omega (arith, c.type_inv.image w)) c.requires.counter

pub sweep-requires-clause-few_done : goal.sweep-requires-clause-few_done
sweep-requires-clause-few_done c = rw c.budget.ensures (c.requires.limits.once Budget)
