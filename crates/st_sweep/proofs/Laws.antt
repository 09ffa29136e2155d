-- Proof of the law of hazard-free runs.
use Rattle.st_sweep.proofs.Segment.{hazard_free-ticks}
use Rattle.st_sweep.specs.Laws.{MoreLevelsAreNoSlower}

pub more_levels_are_no_slower : MoreLevelsAreNoSlower
more_levels_are_no_slower = λ ds m n left scene some more hazard_free. hazard_free-ticks ds m n left scene some more hazard_free
