use Rattle.st_io.proofs.Common.{◌≡◌, [], length}
use Rattle.st_io.proofs.Joins.{WritesSoFar}
use Rattle.st_io.proofs.sink.write_all.Given as goal

abbrev pub invariant-loop-rest : goal.invariant-loop-rest
invariant-loop-rest g l = record {
  so_far : WritesSoFar (g.K.Sink.output l.fn.k) (g.K.Sink.output l.k) l.fn.piece l.rest;
  no_call : l.fn.piece ≡ [] → l.k ≡ l.fn.k;
}

abbrev pub decreases-loop-rest : goal.decreases-loop-rest
decreases-loop-rest g l = length l.rest
