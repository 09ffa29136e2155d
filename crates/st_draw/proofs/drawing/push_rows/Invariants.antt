-- Loop invariant: the output so far, followed by the remaining rows, is the result.
use Rattle.std.proofs.Common.{◌≡◌, ◌+◌, ◌*◌, ◌++◌, length}
use Rattle.st_draw.specs.Drawing.{rows_elements}
use Rattle.st_draw.specs.Element.{elements_text}
use Rattle.st_draw.proofs.drawing.push_rows.Given as goal

abbrev pub invariant-entries : goal.invariant-entries
invariant-entries l = record {
  so_far : l.out.items ++ elements_text (rows_elements l.sheet l.report l.y l.rest)
      ≡ l.fn.out.items ++ elements_text (rows_elements l.sheet l.report 36 l.entries);
  below : l.y + 16 * length l.rest ≡ 36 + 16 * length l.entries;
}

abbrev pub decreases-entries : goal.decreases-entries
decreases-entries l = length l.rest
