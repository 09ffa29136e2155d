use Rattle.st_io.proofs.Common.{◌≡◌, ◌+◌, ◌-◌, ◌≤◌, length, Came}
use Rattle.st_io.proofs.source.read_all.Given as goal

abbrev pub invariant-reading : goal.invariant-reading
invariant-reading g l = record {
  came : Came (g.S.Source.input l.fn.s) (g.S.Source.input l.s) l.all.items;
  steady : (g.S.Source.input l.s).faults ≡ (g.S.Source.input l.fn.s).faults;
  within : length l.all.items ≤ l.limit;
}

abbrev pub decreases-reading : goal.decreases-reading
decreases-reading g l = l.limit + 1 - length l.all.items
