use Rattle.st_telling.proofs.Common.{◌-◌, lines_for, LinesSoFar, register_lines}
use Rattle.st_telling.proofs.block.write_registers.Given as goal

abbrev pub invariant-loop-w : goal.invariant-loop-w
invariant-loop-w g l =
    LinesSoFar (g.K.Sink.output l.fn.out) (g.K.Sink.output l.out) (lines_for (register_lines l.seen) 30 2)
    (lines_for (register_lines l.seen) (32 - l.w) l.w)
