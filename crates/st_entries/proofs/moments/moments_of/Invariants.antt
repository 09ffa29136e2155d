-- Loop invariant: the events so far, followed by those of the remaining entries, are the result;
-- the number is the count of entries so far.
use Rattle.std.proofs.Common.{◌≡◌, ◌++◌, ◌+◌, length}
use Rattle.st_entries.specs.Moments.{moments}
use Rattle.st_entries.proofs.moments.moments_of.Given as goal

abbrev pub invariant-entries : goal.invariant-entries
invariant-entries l = record {
  so_far : l.out.items ++ moments l.number l.rest ≡ moments 0 l.entries;
  room : l.number + length l.rest ≡ length l.entries;
}

abbrev pub decreases-entries : goal.decreases-entries
decreases-entries l = length l.rest
