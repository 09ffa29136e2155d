use Rattle.st_object.proofs.Common.{◌≡◌, ◌<◌, ◌+◌, ◌^◌, length, pieces_of, draft_at_start, IsDraft, lines_read}
use Rattle.st_object.specs.Object as spec
use Rattle.st_object.proofs.reading.read.Given as goal

abbrev pub invariant-lines : goal.invariant-lines
invariant-lines l = record {
  draft : IsDraft l.draft;
  counted : l.card ≡ length (lines_read l.draft) + 1;
  few : l.card + 1 < 2 ^ 32;
  same : spec.read_from l.draft l.card (pieces_of 10 l.rest) ≡ spec.read_from draft_at_start 1 (pieces_of 10 l.text);
}

abbrev pub decreases-lines : goal.decreases-lines
decreases-lines l = length l.rest
