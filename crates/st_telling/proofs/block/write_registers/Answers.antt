use Rattle.st_telling.proofs.Common.{lines_more, lines_failed, lines_for_next, lines_for_whole, register_lines}
use Rattle.st_telling.proofs.block.write_registers.Goals as goal

pub returns-in_err-write_register : goal.returns-in_err-write_register
returns-in_err-write_register g c =
    lines_failed _ _ _ _ (register_lines c.args.seen.now c.loop-w.w) _ c.from_residual.result c.from_residual.ensures.0
    (lines_for_next _ _ _ (register_lines c.args.seen.now) 32 c.loop-w.w c.loop-w-test.true c.loop-w.invariant)
    c.in_err-write_register.ensures.err

pub loop-w-preserved : goal.loop-w-preserved
loop-w-preserved g c =
    lines_more _ _ _ _ (register_lines c.args.seen.now c.loop-w.w) _
    (lines_for_next _ _ _ (register_lines c.args.seen.now) 32 c.loop-w.w c.loop-w-test.true c.loop-w.invariant)
    c.in_ok-write_register.ensures.ok

pub returns : goal.returns
returns g c = record { ok = lines_for_whole _ _ _ _ 32 c.loop-w.w c.loop-w-test.false c.loop-w.invariant; err = tt }
