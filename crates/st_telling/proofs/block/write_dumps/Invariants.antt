use Rattle.st_telling.proofs.Common.{drop, LinesSoFar, dumps_lines}
use Rattle.st_telling.proofs.block.write_dumps.Given as goal

abbrev pub invariant-loop-first : goal.invariant-loop-first
invariant-loop-first g l =
    LinesSoFar (g.K.Sink.output l.fn.out) (g.K.Sink.output l.out) (dumps_lines l.seen l.dumps) (dumps_lines l.seen (drop l.first-index l.dumps))
