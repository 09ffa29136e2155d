use Rattle.st_lines.proofs.Common.{arith}
use Rattle.st_lines.proofs.DigitLemmas.{word_pieces}
use Rattle.st_lines.proofs.digits.put_hex.Goals as goal

pub returns-clause-bytes : goal.returns-clause-bytes
returns-clause-bytes c =
    word_pieces c.args.word _ _ _ _ (omega arith) c.put_digits.ensures.bytes c.put_digits-2.ensures.bytes
