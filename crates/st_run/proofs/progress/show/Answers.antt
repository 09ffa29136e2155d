use Rattle.st_run.proofs.Common.{◌∷◌, ◌∙◌, sym, ap, state_told, ahead_of, told_as, rest_of, TimedRunEvent}
use Rattle.st_run.proofs.ProgressLemmas.{show-tells, show-keeps}
use Rattle.st_run.proofs.progress.show.Goals as goal

pub returns-clause-kept : goal.returns-clause-kept
returns-clause-kept g c =
    let run = c.args.run.now in
    show-keeps run.left run.tick c.in-Some.at c.in-Some.after.now run.snaps.now run.queue run.driven run.turn c.in-Some.ensures
    c.requires.shown c.requires.turn c.requires.waits

pub returns-clause-told : goal.returns-clause-told
returns-clause-told g c =
    let run = c.args.run.now in
    show-tells run.left run.tick c.in-Some.at c.in-Some.after.now run.snaps.now run.queue run.driven run.turn c.in-Some.ensures
    c.requires.shown c.requires.turn c.requires.waits
    ∙ ap {A = TimedRunEvent} (λ t. told_as t (state_told run.driven.machine) (ahead_of run.driven.machine) run.printed.bytes ∷ rest_of run.turn run.left run.tick c.in-Some.after.now run.queue run.driven)
    (sym c.at_once.ensures)
