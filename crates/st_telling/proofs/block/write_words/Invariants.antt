use Rattle.st_telling.proofs.Common.{◌+◌, ◌-◌, lines_for, LinesSoFar, memory_lines}
use Rattle.st_telling.proofs.block.write_words.Given as goal

abbrev pub invariant-loop-w : goal.invariant-loop-w
invariant-loop-w g l =
    LinesSoFar (g.K.Sink.output l.fn.out) (g.K.Sink.output l.out)
    (lines_for (memory_lines l.seen) (l.last + 1 - l.first) l.first)
    (lines_for (memory_lines l.seen) (l.last + 1 - l.w) l.w)
