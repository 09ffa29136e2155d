use Rattle.std.proofs.Common.{◌+◌, arith}
use Rattle.st_calls.proofs.snapshots.ticks.Goals as goal

pub returns : goal.returns
returns c k below =
    rw (c.fill.invariant.each k (omega arith), c.fill.invariant.each (k + 1) (omega arith)) (omega arith)
