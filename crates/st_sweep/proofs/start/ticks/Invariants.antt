use Rattle.st_sweep.proofs.Common.{◌≡◌, length, ticks_from, last_told}
use Rattle.st_sweep.proofs.start.ticks.Given as goal

abbrev pub invariant-run : goal.invariant-run
invariant-run g l = record {
  same : last_told l.tick l.run.rest ≡ ticks_from l.fn.start g.row.N l.budget l.signals;
}

abbrev pub decreases-run : goal.decreases-run
decreases-run g l = length l.run.rest
