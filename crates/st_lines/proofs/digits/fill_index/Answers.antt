use Rattle.st_lines.proofs.Common.{◌++◌, ◌∙◌, ap, codes, decimal, lf, hex_word, seven_pieces}
use Rattle.st_lines.proofs.digits.fill_index.Goals as goal

pub returns : goal.returns
returns c =
    seven_pieces (codes "INDEX ") (decimal c.args.change.now.number) (codes " WAS ") (hex_word c.args.change.now.kept) (codes " IS ") (hex_word c.args.change.now.word) lf _ _ _ _ _ _ _ _
    c.clear.ensures c.put_word.ensures c.put_hex.ensures.bytes c.put_word-2.ensures c.put_hex-2.ensures.bytes c.put_word-3.ensures
    (c.put_decimal.ensures.bytes ∙ ap (λ n. decimal n ++ c.put_word-3.new.self) c.from.ensures) c.put_word-4.ensures
