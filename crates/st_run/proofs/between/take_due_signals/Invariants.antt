use Rattle.st_run.proofs.Common.{◌≡◌, false, length, with_due_signals, scene_at}
use Rattle.st_run.proofs.between.take_due_signals.Given as goal

abbrev pub invariant-signals : goal.invariant-signals
invariant-signals g l = record {
  came : with_due_signals (scene_at (g.M.ExternalEvents.state l.machine) l.pending) ≡ with_due_signals (scene_at (g.M.ExternalEvents.state l.fn.machine) l.fn.pending);
  cards : l.pending.cards ≡ l.fn.pending.cards;
  rest : g.M.ExternalEvents.leaves false l.fn.machine l.machine;
}

abbrev pub decreases-signals : goal.decreases-signals
decreases-signals g l = length l.pending.signals
