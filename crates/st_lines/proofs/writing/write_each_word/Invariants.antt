use Rattle.st_lines.proofs.Common.{◌-◌, WORDS, lines_for, LinesSoFar, nonzero_word_lines}
use Rattle.st_lines.proofs.writing.write_each_word.Given as goal

abbrev pub invariant-loop-w : goal.invariant-loop-w
invariant-loop-w g l =
    LinesSoFar (g.K.Sink.output l.fn.out) (g.K.Sink.output l.out) (lines_for (nonzero_word_lines l.state) WORDS 0) (lines_for (nonzero_word_lines l.state) (WORDS - l.w) l.w)
