use Rattle.st_tally.proofs.Common.{arith}
use Rattle.st_tally.proofs.tables.add_to_reason.Goals as goal

pub overflow_add-sum : goal.overflow_add-sum
overflow_add-sum c = omega (arith, c.requires.order.later, c.requires.order.early, c.requires.within.rows)
