-- Loop invariant: the card is found among the remaining lines.
use Rattle.std.proofs.Common.{◌≡◌, length}
use Rattle.st_text.specs.Pieces.{pieces_of}
use Rattle.st_entries.specs.Label.{label_card}
use Rattle.st_entries.proofs.label.label_at.Given as goal

abbrev pub invariant-lines : goal.invariant-lines
invariant-lines l = label_card l.here (pieces_of 10 l.rest) ≡ label_card l.here (pieces_of 10 l.report)

abbrev pub decreases-lines : goal.decreases-lines
decreases-lines l = length l.rest
