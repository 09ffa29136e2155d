use Rattle.st_run.proofs.Common.{◌≡◌, false, length, with_signals_at_rest, scene_at}
use Rattle.st_run.proofs.between.take_signals_at_rest.Given as goal

abbrev pub invariant-signals : goal.invariant-signals
invariant-signals g l = record {
  came : with_signals_at_rest (scene_at (g.M.ExternalEvents.state l.machine) l.pending) ≡ with_signals_at_rest (scene_at (g.M.ExternalEvents.state l.fn.machine) l.fn.pending);
  cards : l.pending.cards ≡ l.fn.pending.cards;
  rest : g.M.ExternalEvents.leaves false l.fn.machine l.machine;
}

abbrev pub decreases-signals : goal.decreases-signals
decreases-signals g l = length l.pending.signals
