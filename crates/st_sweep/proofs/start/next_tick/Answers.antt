use Rattle.st_sweep.proofs.Common.{sym, ◌∙◌, ap, last_told}
use Rattle.st_sweep.proofs.ToldTicks.{last_told-next, last_told-left_out}
use Rattle.st_sweep.proofs.start.next_tick.Goals as goal

pub returns-in-Some-clause-told : goal.returns-in-Some-clause-told
returns-in-Some-clause-told g c t = last_told-left_out _ _ _ c.in-Some.ensures.told t

pub returns-in-Some-next-clause-told : goal.returns-in-Some-next-clause-told
returns-in-Some-next-clause-told g c t = ap (last_told t) (sym c.in_default.ensures.told) ∙ last_told-next t _ _ _ c.in-Some-next.ensures.told
