use Rattle.st_sweep.proofs.Common.{sym, ◌∙◌, ap, ticks_from}
use Rattle.st_sweep.proofs.ToldTicks.{told-whole, last_told-end}
use Rattle.st_sweep.proofs.start.ticks.Goals as goal

pub run-init : goal.run-init
run-init g c = record {
  same =
      told-whole _ g.row.N c.args.budget _ c.args.signals.now _ _ c.new-run.ensures.rest c.empty.ensures
      ∙ ap (λ s. ticks_from s g.row.N c.args.budget c.args.signals.now) c.start.view_is;
}

pub run-preserved : goal.run-preserved
run-preserved g c = record { same = sym (c.in-Some.ensures.told c.run.tick) ∙ c.run.invariant.same }

pub returns : goal.returns
returns g c = sym (last_told-end c.run.tick _ c.in_default.ensures.told) ∙ c.run.invariant.same
