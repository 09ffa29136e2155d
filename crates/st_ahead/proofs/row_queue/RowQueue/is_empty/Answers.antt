use Rattle.st_ahead.proofs.Common.{ap, arith, Queue}
use Rattle.st_ahead.proofs.NotedRows.{none-left}
use Rattle.st_ahead.proofs.row_queue.RowQueue.is_empty.Goals as goal

pub returns : goal.returns
returns c =
    let here = c.self.inside in
    none-left here.first here.end here.rows c.args.self.now.rows (omega (arith, c.self.invariant)) (omega (arith, c.self.invariant))
    (ap {A = Queue} (λ q. q.rows) c.self.view_is)
