use Rattle.st_ledger.proofs.Common.{codes, decimal, lf, stage_name}
use Rattle.st_ledger.proofs.FromEnd.{five_pieces}
use Rattle.st_ledger.proofs.lines.fill_sum.Goals as goal

pub returns : goal.returns
returns c =
    five_pieces (codes "SUM ") (stage_name c.args.stage) (codes " ") (decimal c.args.ticks) lf _ _ _ _ _ _ c.clear.ensures c.put_word.ensures
    c.put_decimal.ensures.bytes c.put_word-2.ensures c.put_stage.ensures.bytes c.put_word-3.ensures
