use Rattle.st_run.proofs.Common.{sym, subst, Overlap, MayServe, IsLed, IsLedOn, Together}
use Rattle.st_run.proofs.LedLemmas.{stop-led}
use Rattle.st_run.proofs.leaving.end_run.Goals as goal

pub returns-clause-led : goal.returns-clause-led
returns-clause-led g c =
    let may = subst (λ (t : Together). MayServe t.machine) (sym c.driven.view_is) c.requires in
    subst {A = Together} (λ t. IsLedOn t.machine c.stop.new.self) c.driven.view_is (λ start led.
    subst {A = Overlap} (IsLed start) (sym c.stop.ensures.after) (stop-led c.driven.inside.machine may led))
