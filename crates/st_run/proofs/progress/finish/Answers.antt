use Rattle.st_run.proofs.Common.{◌∷◌, ◌∙◌, sym, ap, state_told, ahead_of, told_as, rest_of, TimedRunEvent}
use Rattle.st_run.proofs.ProgressLemmas.{end-tells, end-keeps, last-tells, last-keeps}
use Rattle.st_run.specs.declared.run_phase.RunPhase.TheVariants as turns
use Rattle.st_run.proofs.progress.finish.Goals as goal

pub returns-in_default-clause-kept : goal.returns-in_default-clause-kept
returns-in_default-clause-kept g c =
    let run = c.args.run.now in
    end-keeps c.args.rests run.left run.tick run.snaps.now run.queue run.driven c.requires.levels c.requires.in_time c.requires.waits

pub returns-in_default-clause-told : goal.returns-in_default-clause-told
returns-in_default-clause-told g c =
    let run = c.args.run.now in
    end-tells c.args.rests run.left run.tick run.snaps.now run.queue run.driven c.requires.levels c.requires.in_time c.requires.waits
    c.in_default.ensures
    ∙ ap {A = TimedRunEvent} (λ t. told_as t (state_told run.driven.machine) (ahead_of run.driven.machine) run.printed.bytes ∷ rest_of turns.Over run.left run.tick run.snaps.now run.queue run.driven)
    (sym c.at_once.ensures)

pub returns-clause-kept : goal.returns-clause-kept
returns-clause-kept g c =
    let run = c.args.run.now in
    let split = c.in-Some.ensures in
    last-keeps c.args.rests run.left run.tick run.snaps.now run.queue run.driven c.requires.levels c.requires.in_time c.requires.waits
    c.in-Some.at c.in-Some.after.now run.turn split.0 split.1 c.requires.turn

pub returns-clause-told : goal.returns-clause-told
returns-clause-told g c =
    let run = c.args.run.now in
    let split = c.in-Some.ensures in
    last-tells c.args.rests run.left run.tick run.snaps.now run.queue run.driven c.requires.levels c.requires.in_time c.requires.waits
    c.in-Some.at c.in-Some.after.now run.turn split.0 split.1 c.requires.turn
    ∙ ap {A = TimedRunEvent} (λ t. told_as t (state_told run.driven.machine) (ahead_of run.driven.machine) run.printed.bytes ∷ rest_of run.turn run.left run.tick c.in-Some.after.now run.queue run.driven)
    (sym c.at_once-2.ensures)
