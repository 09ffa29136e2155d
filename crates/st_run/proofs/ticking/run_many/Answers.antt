use Rattle.st_run.proofs.Common.{ap, ◌≡◌, ◌-◌, ◌<◌, ◌^◌, None, sym, subst, arith, option_map, queue_with, rows_in_ticks, ticks_passed, Ready, Overlap, IsLedOn, Together, last_for}
use Rattle.st_ahead.specs.declared.events.Halt.{Halt}
use Rattle.st_run.proofs.LedLemmas.{run-led}
use Rattle.st_run.proofs.ticking.run_many.Goals as goal

pub returns-clause-led : goal.returns-clause-led
returns-clause-led g c = subst {A = Together} (λ t. IsLedOn t.machine c.run_to.new.self) c.driven.view_is (λ start led.
    run-led c.args.count (2 ^ 63 - 1) _ c.driven.inside.machine c.run_to.new.self
    (subst (λ (t : Together). t.machine.phase ≡ Ready) (sym c.driven.view_is) (ap {A = Overlap} (λ o. o.phase) c.requires.before.ready.between))
    (subst (λ (t : Together). t.machine.state.done < 2 ^ 63) (sym c.driven.view_is) c.requires.few) c.requires.count (omega arith) c.run_to.ensures.runs led)

pub returns-clause-rows : goal.returns-clause-rows
returns-clause-rows g c =
    subst {A = Together} (λ t. c.run_to.new.rows ≡ queue_with (rows_in_ticks (ticks_passed (last_for None) t.machine.now (option_map (λ (h : Halt). h.row.c) c.run_to.result)) t.machine) c.args.rows.now)
    c.driven.view_is c.run_to.ensures.rows
