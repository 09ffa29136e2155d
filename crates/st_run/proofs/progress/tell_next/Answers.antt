use Rattle.st_run.proofs.Common.{◌∷◌, sym, ◌∙◌, ap, arith, reported_answer, state_told, ahead_of, rest_of, told_as, TimedRunEvent}
use Rattle.st_run.proofs.ProgressLemmas.{seen-none}
use Rattle.st_run.proofs.NextLemmas.{next-tells, next-keeps, still-quiet, still-run, turn-run, turn-rest, end-levels, end-in_time}
use Rattle.st_run.specs.declared.run_phase.RunPhase.TheVariants as turns
use Rattle.st_run.proofs.progress.tell_next.Goals as goal

pub returns-in-Some-clause-kept : goal.returns-in-Some-clause-kept
returns-in-Some-clause-kept g c =
    let run = c.args.run.now in
    let m = run.driven.machine in
    next-keeps run.turn run.left run.tick run.snaps.now run.queue c.next.new.self run.driven _
    (reported_answer run.tick (state_told m) (ahead_of m) c.next.new.printed.bytes c.in-Some.event) (c.in-Some.ensures.told m.state)
    (c.in-Some.ensures.shown m.state (state_told m) run.tick (ahead_of m) c.next.new.printed.bytes (λ some. sym (seen-none m (c.requires.run.taken some))))
    c.requires.run c.in-Some.ensures.taken

pub returns-in-Some-clause-told : goal.returns-in-Some-clause-told
returns-in-Some-clause-told g c =
    let run = c.args.run.now in
    let m = run.driven.machine in
    next-tells run.turn run.left run.tick run.snaps.now run.queue c.next.new.self run.driven _
    (reported_answer run.tick (state_told m) (ahead_of m) c.next.new.printed.bytes c.in-Some.event) (c.in-Some.ensures.told m.state)
    (c.in-Some.ensures.shown m.state (state_told m) run.tick (ahead_of m) c.next.new.printed.bytes (λ some. sym (seen-none m (c.requires.run.taken some))))
    ∙ ap {A = TimedRunEvent} (λ t. told_as t (state_told m) (ahead_of m) c.next.new.printed.bytes ∷ rest_of run.turn run.left run.tick run.snaps.now c.next.new.self run.driven) (sym c.at_once.ensures)

pub go-requires : goal.go-requires
go-requires g c =
    let run = c.args.run.now in
    let e = c.in_default.ensures in (
      omega arith,
      (
        turn-run run.turn run.left run.tick run.snaps.now run.queue c.next.new.self run.driven e.told e.none c.requires.run turns.Before c.in-Before.is,
        (c.in-Before.is, (still-quiet run.turn run.left run.tick run.snaps.now run.queue c.next.new.self run.driven e.told e.none c.requires.run, c.requires.shut)),
      ),
    )

pub finish-requires : goal.finish-requires
finish-requires g c =
    let run = c.args.run.now in
    let e = c.in_default.ensures in (
      omega arith,
      (
        c.in-AtEnd.is,
        (
          end-levels run.turn run.left run.tick run.snaps.now run.queue c.next.new.self run.driven e.told e.none c.requires.run c.in-AtEnd.rests c.in-AtEnd.is,
          (
            end-in_time run.turn run.left run.tick run.snaps.now run.queue c.next.new.self run.driven e.told e.none c.requires.run c.in-AtEnd.rests c.in-AtEnd.is,
            still-quiet run.turn run.left run.tick run.snaps.now run.queue c.next.new.self run.driven e.told e.none c.requires.run,
          ),
        ),
      ),
    )

pub returns-in-Before-clause-told : goal.returns-in-Before-clause-told
returns-in-Before-clause-told g c =
    let run = c.args.run.now in
    let e = c.in_default.ensures in
    turn-rest run.turn run.left run.tick run.snaps.now run.queue c.next.new.self run.driven e.told e.none c.requires.run turns.Before c.in-Before.is
    ∙ c.go.ensures.told

pub returns-in-AtEnd-clause-told : goal.returns-in-AtEnd-clause-told
returns-in-AtEnd-clause-told g c =
    let run = c.args.run.now in
    let e = c.in_default.ensures in
    turn-rest run.turn run.left run.tick run.snaps.now run.queue c.next.new.self run.driven e.told e.none c.requires.run
    (turns.AtEnd c.in-AtEnd.rests) c.in-AtEnd.is
    ∙ c.finish.ensures.told

pub returns-in-Over-clause-kept : goal.returns-in-Over-clause-kept
returns-in-Over-clause-kept g c =
    let run = c.args.run.now in
    let e = c.in_default.ensures in
    still-run run.turn run.left run.tick run.snaps.now run.queue c.next.new.self run.driven e.told e.none c.requires.run

pub returns-in-Over-clause-told : goal.returns-in-Over-clause-told
returns-in-Over-clause-told g c =
    let run = c.args.run.now in
    let e = c.in_default.ensures in
    turn-rest run.turn run.left run.tick run.snaps.now run.queue c.next.new.self run.driven e.told e.none c.requires.run turns.Over c.in-Over.is
