-- Loop invariant: the output so far, followed by the lines of the remaining moments, is the result.
use Rattle.std.proofs.Common.{◌≡◌, ◌++◌, length}
use Rattle.st_entries.specs.Log.{moments_lines}
use Rattle.st_entries.proofs.log.push_moments.Given as goal

abbrev pub invariant-moments : goal.invariant-moments
invariant-moments l =
    l.out.items ++ moments_lines l.report l.tick l.rest ≡ l.fn.out.items ++ moments_lines l.report l.start l.moments

abbrev pub decreases-moments : goal.decreases-moments
decreases-moments l = length l.rest
