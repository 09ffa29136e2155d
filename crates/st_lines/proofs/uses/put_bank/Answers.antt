use Rattle.st_lines.proofs.Common.{arith}
use Rattle.st_lines.proofs.UseLemmas.{bank_digit}
use Rattle.st_lines.proofs.uses.put_bank.Goals as goal

pub returns-clause-bytes : goal.returns-clause-bytes
returns-clause-bytes g c =
    bank_digit c.args.w c.bank_of.result c.args.piece _ _ _ c.bank_of.ensures.value (omega (arith, c.bank_of.ensures.bound)) c.put_word.ensures
    c.put_word-2.ensures
