use Rattle.st_run.proofs.Common.{IfSome, ◌≤◌, ◌-◌, ◌∷◌, ◌∙◌, ap, ℕ, Option, List, sym, subst, arith, TimedReportedEvent, rest_of, state_told, ahead_of, told_as, AreInTime, TimedRunEvent}
use Rattle.st_run.proofs.ProgressLemmas.{rest-quiet}
use Rattle.st_run.proofs.LeftLemmas.{oldest-in_time, done-in_time}
use Rattle.st_run.proofs.GoLemmas.{first-late, go-shows, go-leaves, go-counts, go-tells}
use Rattle.st_run.specs.declared.run_phase.RunPhase.TheVariants as turns
use Rattle.st_run.proofs.progress.go.Goals as goal

pub run_until-requires : goal.run_until-requires
run_until-requires g c =
    let run = c.args.run.now in
    let stands = c.requires.run.stands in
    let in_time = subst {A = List TimedReportedEvent} AreInTime (rest-quiet turns.Before run.left run.tick run.snaps.now run.queue run.driven c.requires.waits) c.requires.run.in_time in (
      omega arith,
      (
        stands.0,
        (
          oldest-in_time run.left run.tick run.snaps.now run.driven stands.0 in_time,
          (
            done-in_time run.left run.tick run.snaps.now run.driven stands.0 in_time,
            subst {A = Option ℕ} (λ o. IfSome o (λ x. run.driven.machine.now - 1 ≤ x)) (sym c.first_of-snap.ensures)
                (first-late run.driven.machine.now run.snaps.now stands.1),
          ),
        ),
      ),
    )

pub show-requires : goal.show-requires
show-requires g c =
    let run = c.args.run.now in
    let stands = c.requires.run.stands in
    let in_time = subst {A = List TimedReportedEvent} AreInTime (rest-quiet turns.Before run.left run.tick run.snaps.now run.queue run.driven c.requires.waits) c.requires.run.in_time in
    let rising = stands.1 in (
      omega arith,
      (
        go-shows run.left run.tick run.snaps.now run.driven c.run_until.new.driven stands.0 rising in_time
            c.first_of-snap.result c.first_of-snap.ensures c.in_default.ensures.made,
        (c.requires.turn, c.requires.waits),
      ),
    )

pub leave_entry-requires : goal.leave_entry-requires
leave_entry-requires g c =
    let run = c.args.run.now in
    let stands = c.requires.run.stands in
    let in_time = subst {A = List TimedReportedEvent} AreInTime (rest-quiet turns.Before run.left run.tick run.snaps.now run.queue run.driven c.requires.waits) c.requires.run.in_time in
    let rising = stands.1 in (
      omega arith,
      (
        go-leaves run.left run.tick run.snaps.now run.driven c.run_until.new.driven stands.0 rising in_time
            c.in-Some.halt.row c.first_of-snap.result c.first_of-snap.ensures c.in-Some.ensures.made,
        (
          c.in-Some.ensures.quiet,
          (
            go-counts run.left run.tick run.snaps.now run.driven c.run_until.new.driven stands.0 rising in_time
                c.in-Some.halt.row c.first_of-snap.result c.first_of-snap.ensures c.in-Some.ensures.made,
            (c.requires.turn, c.requires.waits),
          ),
        ),
      ),
    )

pub returns-clause-told : goal.returns-clause-told
returns-clause-told g c =
    let run = c.args.run.now in
    let stands = c.requires.run.stands in
    let in_time = subst {A = List TimedReportedEvent} AreInTime (rest-quiet turns.Before run.left run.tick run.snaps.now run.queue run.driven c.requires.waits) c.requires.run.in_time in
    let rising = stands.1 in
    let run_new = c.leave_entry.new.run in
    go-tells run.left run.tick run.snaps.now run.driven c.run_until.new.driven stands.0 rising in_time
    c.in-Some.halt.row c.first_of-snap.result c.first_of-snap.ensures c.in-Some.ensures.made _ c.leave_entry.ensures.told
    ∙ ap {A = TimedRunEvent} (λ t. told_as t (state_told run_new.driven.machine) (ahead_of run_new.driven.machine) run_new.printed.bytes
    ∷ rest_of run_new.turn run_new.left run_new.tick run_new.snaps.now run_new.queue run_new.driven) (sym c.event_of_row.ensures)
