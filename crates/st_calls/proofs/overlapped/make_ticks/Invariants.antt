use Rattle.std.proofs.Common.{◌≡◌, ◌+◌}
use Rattle.st_ahead.specs.Overlap.{Ready}
use Rattle.st_calls.proofs.overlapped.make_ticks.Given as goal

abbrev pub invariant-ticks : goal.invariant-ticks
invariant-ticks g l = record {
  ready : l.machine.phase ≡ Ready;
  now : l.machine.now ≡ l.fn.machine.now + l._k;
  done : l.machine.state.done ≡ 0;
}
