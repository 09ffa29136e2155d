use Rattle.st_lines.proofs.Common.{codes, lf, half_address}
use Rattle.st_lines.proofs.DigitLemmas.{three_pieces}
use Rattle.st_lines.proofs.digits.fill_counter.Goals as goal

pub returns : goal.returns
returns c =
    three_pieces (codes "IC ") (half_address c.args.ic) lf _ _ _ _ c.clear.ensures c.put_word.ensures c.put_half_address.ensures.bytes c.put_word-2.ensures
