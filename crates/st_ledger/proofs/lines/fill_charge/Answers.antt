use Rattle.st_ledger.proofs.Common.{codes, decimal, lf, stage_name}
use Rattle.st_ledger.proofs.FromEnd.{seven_pieces}
use Rattle.st_ledger.proofs.lines.fill_charge.Goals as goal

pub returns : goal.returns
returns c =
    let x = c.args.charge in
    seven_pieces (codes "CHARGE ") (decimal x.from) (codes " ") (decimal x.to) (codes " ") (stage_name x.stage) lf _ _ _ _ _ _ _ _
    c.clear.ensures c.put_word.ensures c.put_stage.ensures.bytes c.put_word-2.ensures c.put_near.ensures.bytes c.put_word-3.ensures c.put_near-2.ensures.bytes
    c.put_word-4.ensures
