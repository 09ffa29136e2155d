use Rattle.st_io.proofs.Common.{◌∙◌, arith, length-take}
use Rattle.st_io.proofs.Joins.{came_more}
use Rattle.st_io.proofs.source.read_all.Goals as goal

-- the read after which there are more bytes than the limit
pub returns-then-len-n : goal.returns-then-len-n
returns-then-len-n g c =
    let more = came_more _ _ _ c.reading.all.items c.read.new.buf c.in-Ok.n c.in-Ok.ensures.bound c.reading.invariant.came c.in-Ok.ensures.outcome in
    record { outcome = ((more.0, more.1, omega (arith, more.2, c.in-Ok.ensures.bound, c.read.auto.buf, length-take c.min-room.result c.reading.buffer)), c.in-Ok.ensures.outcome.steady ∙ c.reading.invariant.steady) }

-- the read for whose bytes the allocation failed
pub returns-then-is_err : goal.returns-then-is_err
returns-then-is_err g c =
    let more = came_more _ _ _ c.reading.all.items c.read.new.buf c.in-Ok.n c.in-Ok.ensures.bound c.reading.invariant.came c.in-Ok.ensures.outcome in
    record { outcome = ((more.0, more.1, omega (arith, more.2)), c.in-Ok.ensures.outcome.steady ∙ c.reading.invariant.steady) }
