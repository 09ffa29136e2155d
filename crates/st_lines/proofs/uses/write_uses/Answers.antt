use Rattle.st_lines.proofs.Common.{lines_more, lines_failed}
use Rattle.st_lines.proofs.UseLemmas.{uses_next, uses_whole}
use Rattle.st_lines.proofs.uses.write_uses.Goals as goal

pub returns-in_err-write_use : goal.returns-in_err-write_use
returns-in_err-write_use g c =
    lines_failed _ _ _ _ _ _ c.from_residual.result c.from_residual.ensures.0
    (uses_next _ _ _ c.args.n c.args.end c.args.uses.now c.loop-used.used-index _ c.loop-used-test.true c.loop-used.invariant)
    c.in_err-write_use.ensures.err

pub loop-used-preserved : goal.loop-used-preserved
loop-used-preserved g c =
    lines_more _ _ _ _ _ _
    (uses_next _ _ _ c.args.n c.args.end c.args.uses.now c.loop-used.used-index _ c.loop-used-test.true c.loop-used.invariant)
    c.in_ok-write_use.ensures.ok

pub returns : goal.returns
returns g c = record {
  ok = uses_whole _ _ _ c.args.n c.args.end c.args.uses.now c.loop-used.used-index c.loop-used-test.false c.loop-used.invariant;
  err = tt;
}
