use Rattle.st_top.proofs.Common.{length, pieces_of, LinesSoFar, whole_lines}
use Rattle.st_top.proofs.objects.write_ended.Given as goal

abbrev pub invariant-lines : goal.invariant-lines
invariant-lines g l =
    LinesSoFar (g.K.Sink.output l.fn.out) (g.K.Sink.output l.out) (whole_lines (pieces_of 10 l.text)) (whole_lines (pieces_of 10 l.rest))

abbrev pub decreases-lines : goal.decreases-lines
decreases-lines g l = length l.rest
