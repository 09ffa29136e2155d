-- Loop invariant: the line so far, followed by the remaining marked ticks, is the result.
use Rattle.std.proofs.Common.{◌≡◌, length}
use Rattle.st_draw.specs.Terminal.{scale}
use Rattle.st_draw.proofs.terminal.push_scale.Given as goal

abbrev pub invariant-ticks : goal.invariant-ticks
invariant-ticks l = scale l.page l.line.items l.rest ≡ scale l.page l.fn.line.items l.ticks

abbrev pub decreases-ticks : goal.decreases-ticks
decreases-ticks l = length l.rest
