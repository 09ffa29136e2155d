use Rattle.st_lines.proofs.Common.{codes, decimal, lf, stage_name, seven_pieces, stall_name}
use Rattle.st_lines.proofs.waits.fill_wait_sum.Goals as goal

pub returns : goal.returns
returns c =
    let x = c.args.sum.now in
    seven_pieces (codes "SUM ") (stage_name x.stage) (codes " ") (stall_name x.why) (codes " ") (decimal x.ticks) lf _ _ _ _ _ _ _ _ c.clear.ensures
    c.put_word.ensures c.put_decimal.ensures.bytes c.put_word-2.ensures c.put_stall.ensures.bytes c.put_word-3.ensures c.put_stage.ensures.bytes
    c.put_word-4.ensures
