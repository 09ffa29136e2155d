use Rattle.st_top.proofs.Common.{◌≡◌, ◌+◌, [], ◌∷◌, ◌++◌, length, states_before}
use Rattle.st_top.proofs.Rewinds.{LeftToUndo}
use Rattle.st_top.proofs.beside.undo_all.Given as goal

abbrev pub invariant-loop : goal.invariant-loop
invariant-loop l = record {
  counted : length l.steps.kept + l.counter ≡ l.count;
  left : LeftToUndo (states_before l.fn.steps.kept l.fn.machine ++ l.fn.machine ∷ []) l.steps l.machine;
}
