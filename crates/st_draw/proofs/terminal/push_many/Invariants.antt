-- Loop invariant: one byte has been appended in each round.
use Rattle.std.proofs.Common.{◌≡◌, ◌++◌, replicate}
use Rattle.st_draw.proofs.terminal.push_many.Given as goal

abbrev pub invariant-loop : goal.invariant-loop
invariant-loop l = l.out.items ≡ l.fn.out.items ++ replicate l.counter l.byte
