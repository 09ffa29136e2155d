-- Loop invariant: the entries so far, followed by the remaining dropped entries, last one first,
-- are the result.
use Rattle.std.proofs.Common.{◌≡◌, ◌++◌, length, reverse}
use Rattle.st_entries.proofs.timetable.push_dropped.Given as goal

abbrev pub invariant-entries : goal.invariant-entries
invariant-entries l = l.entries.items ++ reverse l.dropped.items ≡ l.fn.entries.items ++ reverse l.fn.dropped.items

abbrev pub decreases-entries : goal.decreases-entries
decreases-entries l = length l.dropped.items
