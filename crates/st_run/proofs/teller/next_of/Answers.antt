use Rattle.st_run.proofs.Common.{◌∷◌, List, sym, ap, ◌∙◌, Queue, Row, rest_of, rows_then, state_told, ahead_of, told_as, TimedRunEvent}
use Rattle.st_run.proofs.RowLemmas.{told-behind}
use Rattle.st_run.proofs.teller.next_of.Goals as goal

pub returns-in-Some-clause-told : goal.returns-in-Some-clause-told
returns-in-Some-clause-told g c =
    let run = c.args.teller.now.progress in
    let rest = rest_of run.turn run.left run.tick run.snaps.now run.queue run.driven in
    ap {A = List Row} (λ xs. rows_then xs rest) c.in-Some.ensures.rows
    ∙ ap {A = TimedRunEvent} (λ t. told_as t (state_told run.driven.machine) (ahead_of run.driven.machine) run.printed.bytes ∷ rows_then c.next.new.self.rows rest) (sym c.event_of_row.ensures)

pub returns-clause-told : goal.returns-clause-told
returns-clause-told g c =
    let run = c.args.teller.now.progress in
    let after = c.tell_next.new.run in
    let rest = rest_of run.turn run.left run.tick run.snaps.now run.queue run.driven in
    let more = rest_of after.turn after.left after.tick after.snaps.now after.queue after.driven in
    let same = c.tell_next.ensures.rows ∙ c.in_default.ensures.none in
    told-behind c.tell_next.result c.args.teller.now.rows.rows c.tell_next.new.rows.rows rest more
    (λ t. told_as t (state_told after.driven.machine) (ahead_of after.driven.machine) after.printed.bytes) c.in_default.ensures.rows (ap {A = Queue} (λ q. q.rows) same) c.tell_next.ensures.told
