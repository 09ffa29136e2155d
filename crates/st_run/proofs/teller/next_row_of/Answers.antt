use Rattle.st_run.proofs.Common.{◌∙◌, rest_of, rows_then}
use Rattle.st_run.proofs.RowLemmas.{row-next, row-room}
use Rattle.st_run.proofs.teller.next_row_of.Goals as goal

pub returns-clause-shut : goal.returns-clause-shut
returns-clause-shut g c =
    row-room c.next.result c.make_ready.new.teller.rows c.next.new.self c.next.ensures.none ∙ c.make_ready.ensures.shut

pub returns-clause-told : goal.returns-clause-told
returns-clause-told g c =
    let run = c.make_ready.new.teller.progress in
    let rest = rest_of run.turn run.left run.tick run.snaps.now run.queue run.driven in
    let old = c.args.teller.now.progress in
    row-next c.next.result c.make_ready.new.teller.rows c.next.new.self rest
    (rows_then c.args.teller.now.rows.rows (rest_of old.turn old.left old.tick old.snaps.now old.queue old.driven))
    c.make_ready.ensures.told c.next.ensures.rows c.next.ensures.none
