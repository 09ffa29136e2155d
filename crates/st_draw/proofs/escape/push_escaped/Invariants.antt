use Rattle.std.proofs.Common.{◌≡◌, ◌++◌, length}
use Rattle.st_draw.specs.Escape.{escaped_text}
use Rattle.st_draw.proofs.escape.push_escaped.Given as goal

abbrev pub invariant-bytes : goal.invariant-bytes
invariant-bytes l = l.out.items ++ escaped_text l.rest ≡ l.fn.out.items ++ escaped_text l.text

abbrev pub decreases-bytes : goal.decreases-bytes
decreases-bytes l = length l.rest
