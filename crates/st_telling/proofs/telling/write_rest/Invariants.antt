use Rattle.st_telling.proofs.Common.{length}
use Rattle.st_telling.proofs.Runs.{ToldSoFar}
use Rattle.st_telling.proofs.telling.write_rest.Given as goal

-- the remaining lines are those of the remaining events of the run
abbrev pub invariant-telling : goal.invariant-telling
invariant-telling g l =
    ToldSoFar (g.K.Sink.output l.fn.out) (g.K.Sink.output l.out) l.controls l.fn.moment l.moment l.fn.run.rest l.run.rest

abbrev pub decreases-telling : goal.decreases-telling
decreases-telling g l = length l.run.rest
