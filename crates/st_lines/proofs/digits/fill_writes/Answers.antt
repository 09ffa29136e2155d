use Rattle.st_lines.proofs.Common.{◌++◌, ◌∙◌, ap, codes, decimal, lf}
use Rattle.st_report.proofs.FromEndLemmas.{five_pieces}
use Rattle.st_lines.proofs.digits.fill_writes.Goals as goal

pub returns : goal.returns
returns c =
    five_pieces (codes "WRITES ") (decimal c.args.w) (codes " ") (decimal c.args.n) lf _ _ _ _ _ _ c.clear.ensures c.put_word.ensures
    (c.put_decimal.ensures.bytes ∙ ap (λ n. decimal n ++ c.put_word.new.self) c.from.ensures) c.put_word-2.ensures
    (c.put_decimal-2.ensures.bytes ∙ ap (λ n. decimal n ++ c.put_word-2.new.self) c.from-2.ensures) c.put_word-3.ensures
