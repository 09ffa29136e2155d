use Rattle.st_lines.proofs.Common.{drop, LinesSoFar, use_lines}
use Rattle.st_lines.proofs.uses.write_uses.Given as goal

abbrev pub invariant-loop-used : goal.invariant-loop-used
invariant-loop-used g l =
    LinesSoFar (g.K.Sink.output l.fn.out) (g.K.Sink.output l.out) (use_lines l.n l.end l.uses) (use_lines l.n l.end (drop l.used-index l.uses))
