use Rattle.st_run.proofs.Common.{◌≡◌, ℕ, List, length, AllPass, is_signal, with_due_signals, MaySignal}
use Rattle.st_run.proofs.driven.due_signals.Given as goal

abbrev pub invariant-signals : goal.invariant-signals
invariant-signals g l = record {
  passes : AllPass is_signal l.rest;
  turn : MaySignal l.machine;
  machine : l.machine ≡ record l.fn.machine { state = l.machine.state };
  came : (cards : List (List ℕ)) → with_due_signals (record { machine = l.machine.state; signals = l.rest; cards = cards })
      ≡ with_due_signals (record { machine = l.fn.machine.state; signals = l.signals; cards = cards });
}

abbrev pub decreases-signals : goal.decreases-signals
decreases-signals g l = length l.rest
