use Rattle.st_run.proofs.Common.{ap, Queue, rest_of}
use Rattle.st_run.proofs.RowLemmas.{none-waits, passed-behind}
use Rattle.st_run.proofs.teller.pass_over.Goals as goal

pub returns-clause-told : goal.returns-clause-told
returns-clause-told g c =
    let run = c.args.teller.now.progress in
    let after = c.pass_entries.new.run in
    let rest = rest_of run.turn run.left run.tick run.snaps.now run.queue run.driven in
    let more = rest_of after.turn after.left after.tick after.snaps.now after.queue after.driven in
    passed-behind c.pass_entries.result c.args.teller.now.rows.rows c.pass_entries.new.rows.rows rest more
    (none-waits c.args.teller.now.rows.rows _ c.is_empty.ensures c.if-not-is_empty.false)
    (ap {A = Queue} (λ q. q.rows) c.pass_entries.ensures.rows) c.pass_entries.ensures.told
