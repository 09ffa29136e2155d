use Rattle.st_report.proofs.Common.{codes, decimal, lf, half_address}
use Rattle.st_report.proofs.FromEndLemmas.{five_pieces}
use Rattle.st_report.proofs.run.fill_trc_anew.Goals as goal

pub returns : goal.returns
returns c =
    five_pieces (codes "TRC ") (decimal c.args.n) (codes " ") (half_address c.args.address) lf _ _ _ _ _ _
    c.clear.ensures c.put_word.ensures c.put_half_address.ensures.bytes c.put_word-2.ensures c.put_decimal.ensures.bytes c.put_word-3.ensures
