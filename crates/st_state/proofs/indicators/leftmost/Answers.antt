use Rattle.st_state.proofs.Common.{sym, arith, and_le_l}
use Rattle.st_state.proofs.Leftmost.{leftmost-none, leftmost-some}
use Rattle.st_state.proofs.indicators.leftmost.Goals as goal

pub returns-then-pending-eq0-clause-value : goal.returns-then-pending-eq0-clause-value
returns-then-pending-eq0-clause-value c =
    sym (leftmost-none c.args.indicators c.args.mask c.if-pending-eq0.true)

pub returns-else-pending-eq0-clause-value : goal.returns-else-pending-eq0-clause-value
returns-else-pending-eq0-clause-value c =
    sym (leftmost-some c.args.indicators c.args.mask (omega (arith, c.if-pending-eq0.false))
    (omega (arith, and_le_l c.args.indicators c.args.mask)))
