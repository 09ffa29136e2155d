use Rattle.st_ring.proofs.Common.{ap, IssueState, planned_row}
use Rattle.st_ring.proofs.plans.plan_into.Goals as goal

pub returns : goal.returns
returns c = ap (λ (f : IssueState). planned_row f c.args.filled.now) c.of.ensures
