-- Loop invariant: the count so far plus the rows among the remaining entries is the result; the
-- count is at most the number of entries so far.
use Rattle.std.proofs.Common.{◌≡◌, ◌≤◌, ◌+◌, length}
use Rattle.st_draw.specs.Answers.{rows_in}
use Rattle.st_draw.proofs.program.rows_in.Given as goal

abbrev pub invariant-entries : goal.invariant-entries
invariant-entries l = record {
  all : l.count + rows_in l.rest ≡ rows_in l.entries;
  room : l.count + length l.rest ≤ length l.entries;
}

abbrev pub decreases-entries : goal.decreases-entries
decreases-entries l = length l.rest
