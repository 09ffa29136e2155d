use Rattle.st_top.proofs.Common.{◌≡◌, ℕ, ◌+◌, [], IsBesideReady, IsBeside}
use Rattle.st_top.proofs.Rewinds.{StatesSoFar}
use Rattle.st_top.proofs.beside.run_to_end.Given as goal

abbrev pub invariant-running : goal.invariant-running
invariant-running l = record {
  counted : l.second.0.machine.done + l.left ≡ l.budget;
  ready : IsBesideReady l.second;
  states : (depth : ℕ) → IsBeside depth l.fn.second []
      → StatesSoFar depth l.budget l.fn.second.0 l.left l.second;
}

abbrev pub decreases-running : goal.decreases-running
decreases-running l = l.left
