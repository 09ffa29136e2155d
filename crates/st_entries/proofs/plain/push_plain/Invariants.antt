-- Loop invariant: the output so far, followed by the remaining bytes, is the result.
use Rattle.std.proofs.Common.{◌≡◌, ◌++◌, length}
use Rattle.st_entries.specs.Plain.{plain_text}
use Rattle.st_entries.proofs.plain.push_plain.Given as goal

abbrev pub invariant-bytes : goal.invariant-bytes
invariant-bytes l = l.out.items ++ plain_text l.rest ≡ l.fn.out.items ++ plain_text l.text

abbrev pub decreases-bytes : goal.decreases-bytes
decreases-bytes l = length l.rest
