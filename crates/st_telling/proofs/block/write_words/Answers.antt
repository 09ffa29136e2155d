use Rattle.st_telling.proofs.Common.{◌+◌, lines_more, lines_failed, lines_for_next, lines_for_whole, memory_lines}
use Rattle.st_telling.proofs.block.write_words.Goals as goal

pub returns-in_err-write_memory : goal.returns-in_err-write_memory
returns-in_err-write_memory g c =
    lines_failed _ _ _ _ (memory_lines c.args.seen.now c.loop-w.w) _ c.from_residual.result c.from_residual.ensures.0
    (lines_for_next _ _ _ (memory_lines c.args.seen.now) (c.args.last + 1) c.loop-w.w c.loop-w-test.true c.loop-w.invariant)
    c.in_err-write_memory.ensures.err

pub loop-w-preserved : goal.loop-w-preserved
loop-w-preserved g c =
    lines_more _ _ _ _ (memory_lines c.args.seen.now c.loop-w.w) _
    (lines_for_next _ _ _ (memory_lines c.args.seen.now) (c.args.last + 1) c.loop-w.w c.loop-w-test.true c.loop-w.invariant)
    c.in_ok-write_memory.ensures.ok

pub returns : goal.returns
returns g c = record {
  ok = lines_for_whole _ _ _ _ (c.args.last + 1) c.loop-w.w c.loop-w-test.false c.loop-w.invariant;
  err = tt;
}
