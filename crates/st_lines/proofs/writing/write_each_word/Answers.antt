use Rattle.st_lines.proofs.Common.{WORDS, lines_more, lines_failed, lines_for_next, lines_for_whole, nonzero_word_lines}
use Rattle.st_lines.proofs.writing.write_each_word.Goals as goal

pub returns-in_err-write_word : goal.returns-in_err-write_word
returns-in_err-write_word g c =
    lines_failed _ _ _ _ (nonzero_word_lines c.args.state.now c.loop-w.w) _ c.from_residual.result c.from_residual.ensures.0
    (lines_for_next _ _ _ (nonzero_word_lines c.args.state.now) WORDS c.loop-w.w c.loop-w-test.true c.loop-w.invariant)
    c.in_err-write_word.ensures.err

pub loop-w-preserved : goal.loop-w-preserved
loop-w-preserved g c =
    lines_more _ _ _ _ (nonzero_word_lines c.args.state.now c.loop-w.w) _
    (lines_for_next _ _ _ (nonzero_word_lines c.args.state.now) WORDS c.loop-w.w c.loop-w-test.true c.loop-w.invariant)
    c.in_ok-write_word.ensures.ok

pub returns : goal.returns
returns g c = record {
  ok = lines_for_whole _ _ _ _ WORDS c.loop-w.w c.loop-w-test.false c.loop-w.invariant;
  err = tt;
}
