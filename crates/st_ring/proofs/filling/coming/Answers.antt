use Rattle.st_ring.proofs.Common.{arith}
use Rattle.st_ring.proofs.FillLemmas.{nothing-put}
use Rattle.st_ring.proofs.filling.coming.Goals as goal

pub returns-then-k-level : goal.returns-then-k-level
returns-then-k-level c = nothing-put _ c.args.fills.now c.args.level.now.prepared c.args.state.now c.args.now c.args.k (omega arith)
