use Rattle.st_run.proofs.Common.{◌∙◌, sym, subst, ap, view_at_tick, Telling, AreLevelsShown, ahead_of}
use Rattle.st_ahead.specs.declared.events.View.{View}
use Rattle.st_run.proofs.ViewLemmas.{view-run}
use Rattle.st_run.proofs.run.Run.view.Goals as goal

pub returns-clause-levels : goal.returns-clause-levels
returns-clause-levels g c =
    let run = c.self.inside.teller.progress in
    subst {A = Telling} (λ s. AreLevelsShown c.view_of.result.levels s.ahead) c.self.view_is
    (subst {A = View} (λ v. AreLevelsShown v.levels (ahead_of run.driven.machine)) (sym c.view_of.ensures)
    (view-run run.turn run.left run.tick run.snaps.now run.queue run.driven c.self.invariant.0))

pub returns-clause-machine : goal.returns-clause-machine
returns-clause-machine g c = c.view_of.ensures ∙ ap (λ (s : Telling). view_at_tick s.machine) c.self.view_is
