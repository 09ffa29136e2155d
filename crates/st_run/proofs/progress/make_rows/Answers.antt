use Rattle.st_run.proofs.Common.{◌≡◌, [], ◌∷◌, List, refl, sym, ap, ◌∙◌, arith, Queue, queue_with, Row, rest_of, rows_then}
use Rattle.st_run.proofs.LeftLemmas.{done-in_time}
use Rattle.st_run.proofs.NextLemmas.{turn-run, turn-rest}
use Rattle.st_run.proofs.PassLemmas.{ahead-is, far-waits}
use Rattle.st_run.specs.declared.run_phase.RunPhase.TheVariants as turns
use Rattle.st_run.proofs.progress.make_rows.Goals as goal

pub overflow_add-done : goal.overflow_add-done
overflow_add-done g c =
    let run = c.args.run.now in
    let may = c.may_go_far.ensures c.if-not-may_go_far.false in
    let stands = turn-run run.turn run.left run.tick run.snaps.now run.queue run.queue run.driven may.2 refl c.requires.run turns.Before may.0 in
    let is = ahead-is run.left run.tick run.snaps.now run.queue run.driven stands may.2 may.1 in
    omega (arith, done-in_time run.left run.tick [] run.driven is.before is.in_time, c.done_of-done.ensures)

pub returns-clause-told : goal.returns-clause-told
returns-clause-told g c =
    let run = c.args.run.now in
    let after = c.go_far-row.new.run in
    let rest = rest_of after.turn after.left after.tick after.snaps.now after.queue after.driven in
    let may = c.may_go_far.ensures c.if-not-may_go_far.false in
    let waits : queue_with (c.go_far-row.result ∷ []) c.go_far-row.new.rows ≡ c.put.new.self = sym c.put.ensures in
    let shut_rows : c.put.new.self.rows ≡ c.shut.new.self.rows = sym (ap {A = Queue} (λ q. q.rows) c.shut.ensures) in
    turn-rest run.turn run.left run.tick run.snaps.now run.queue run.queue run.driven may.2 refl c.requires.run turns.Before may.0
    ∙ far-waits c.done_of-done.result c.go_far-row.result _ rest _ _ c.go_far-row.ensures.told c.open.ensures
    ∙ ap {A = Queue} (λ q. rows_then q.rows rest) waits
    ∙ ap {A = List Row} (λ xs. rows_then xs rest) shut_rows
