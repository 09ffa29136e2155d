use Rattle.st_back.proofs.Common.{◌≡◌, ◌≤◌, unput}
use Rattle.st_back.proofs.undoing.remove_puts.Given as goal

abbrev pub invariant-puts : goal.invariant-puts
invariant-puts l =
    (l.n ≤ l.kept.puts)
    × (unput l.n l.kept.places l.kept.contents l.state
    ≡ unput l.kept.puts l.kept.places l.kept.contents l.initial.state)

abbrev pub decreases-puts : goal.decreases-puts
decreases-puts l = l.n
