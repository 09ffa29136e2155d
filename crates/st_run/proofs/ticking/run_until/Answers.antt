use Rattle.st_run.proofs.Common.{queue-shut, ap, ◌≡◌, ◌<◌, ◌^◌, sym, subst, ◌∙◌, arith, Ready, Overlap, IsLedOn, Together}
use Rattle.st_run.proofs.TickLemmas.{made-until}
use Rattle.st_run.proofs.LedLemmas.{run-led, last-soon}
use Rattle.st_run.proofs.ticking.run_until.Goals as goal

pub returns-clause-made : goal.returns-clause-made
returns-clause-made g c =
    made-until c.args.driven.now c.driven.inside.machine c.run_to.new.self _ _ c.driven.view_is c.requires.before c.requires.in_time c.args.snap
    c.requires.snap c.last_of.result c.last_of.ensures _ c.run_to.ensures.runs

pub returns-clause-led : goal.returns-clause-led
returns-clause-led g c = subst {A = Together} (λ t. IsLedOn t.machine c.run_to.new.self) c.driven.view_is (λ start led.
    run-led 0 c.last_of.result _ c.driven.inside.machine c.run_to.new.self
    (subst (λ (t : Together). t.machine.phase ≡ Ready) (sym c.driven.view_is) (ap {A = Overlap} (λ o. o.phase) c.requires.before.ready.between))
    (subst (λ (t : Together). t.machine.state.done < 2 ^ 63) (sym c.driven.view_is) c.requires.few) (omega arith)
    (last-soon c.args.snap c.last_of.result c.last_of.ensures) c.run_to.ensures.runs led)

pub returns-clause-rows : goal.returns-clause-rows
returns-clause-rows g c = λ shut. c.run_to.ensures.rows ∙ queue-shut _ c.args.rows.now shut
