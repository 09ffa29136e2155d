use Rattle.st_run.proofs.Common.{List, ap, ◌∙◌, arith, Row, rest_of, rows_then}
use Rattle.st_run.proofs.RowLemmas.{none-waits}
use Rattle.st_run.proofs.teller.make_ready.Goals as goal

pub returns-clause-told : goal.returns-clause-told
returns-clause-told g c =
    let run = c.args.teller.now.progress in
    let rest = rest_of run.turn run.left run.tick run.snaps.now run.queue run.driven in
    ap {A = List Row} (λ xs. rows_then xs rest) (none-waits c.args.teller.now.rows.rows _ c.is_empty.ensures c.if-not-is_empty.false) ∙ c.make_rows.ensures.told

pub make_rows-requires : goal.make_rows-requires
make_rows-requires g c =
    (omega arith, (c.requires.run, (none-waits c.args.teller.now.rows.rows _ c.is_empty.ensures c.if-not-is_empty.false, c.requires.shut)))
