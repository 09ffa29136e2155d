use Rattle.st_lines.proofs.Common.{arith}
use Rattle.st_lines.proofs.DigitLemmas.{digit_pieces}
use Rattle.st_lines.proofs.digits.put_digits.Goals as goal

pub returns-clause-bytes : goal.returns-clause-bytes
returns-clause-bytes c =
    digit_pieces c.args.n _ _ _ _ _ _ _ _ _ _ _ _ (omega arith) (omega arith) (omega arith) c.pair_of.ensures c.pair_of-2.ensures c.pair_of-3.ensures
    c.pair_of-4.ensures c.put_word.ensures c.put_word-2.ensures c.put_word-3.ensures c.put_word-4.ensures
