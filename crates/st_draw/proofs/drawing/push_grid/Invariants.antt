-- Loop invariant: the output so far, followed by the remaining ticks, is the result.
use Rattle.std.proofs.Common.{◌≡◌, ◌++◌, length}
use Rattle.st_draw.specs.Drawing.{grid}
use Rattle.st_draw.specs.Element.{elements_text}
use Rattle.st_draw.proofs.drawing.push_grid.Given as goal

abbrev pub invariant-ticks : goal.invariant-ticks
invariant-ticks l =
    l.out.items ++ elements_text (grid l.sheet l.rest) ≡ l.fn.out.items ++ elements_text (grid l.sheet l.ticks)

abbrev pub decreases-ticks : goal.decreases-ticks
decreases-ticks l = length l.rest
