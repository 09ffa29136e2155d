use Rattle.st_sweep.proofs.Common.{rules}
use Rattle.st_sweep.proofs.Falling.{levels-of}
use Rattle.st_sweep.proofs.sweeping.sweep.Goals as goal

pub returns-clause-value : goal.returns-clause-value
returns-clause-value c = search rules

pub returns-clause-levels : goal.returns-clause-levels
returns-clause-levels c = levels-of _ _ _ _ c.requires.some_delays (returns-clause-value c)
