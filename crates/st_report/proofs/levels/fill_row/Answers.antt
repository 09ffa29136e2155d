use Rattle.st_report.proofs.Common.{codes, decimal, lf, half_address}
use Rattle.st_report.proofs.FromEndLemmas.{eleven_pieces}
use Rattle.st_report.proofs.levels.fill_row.Goals as goal

pub returns : goal.returns
returns c =
    let row = c.args.row.now in
    eleven_pieces (codes "ROW ") (decimal row.number) (codes " ") (half_address row.address) (codes " P ") (decimal row.p)
    (codes " R ") (decimal row.r) (codes " C ") (decimal row.c) lf
    _ _ _ _ _ _ _ _ _ _ _ _ c.clear.ensures c.put_word.ensures c.put_near.ensures.bytes c.put_word-2.ensures c.put_near-2.ensures.bytes
    c.put_word-3.ensures c.put_near-3.ensures.bytes c.put_word-4.ensures c.put_half_address.ensures.bytes c.put_word-5.ensures
    c.put_near-4.ensures.bytes c.put_word-6.ensures
