-- Loop invariant: the output so far, followed by the lines of the remaining entries, is the result.
use Rattle.std.proofs.Common.{◌≡◌, ◌++◌, length}
use Rattle.st_draw.specs.Terminal.{entry_lines}
use Rattle.st_draw.proofs.terminal.push_entries.Given as goal

abbrev pub invariant-entries : goal.invariant-entries
invariant-entries l =
    l.out.items ++ entry_lines l.page l.report l.rest ≡ l.fn.out.items ++ entry_lines l.page l.report l.entries

abbrev pub decreases-entries : goal.decreases-entries
decreases-entries l = length l.rest
