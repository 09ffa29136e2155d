use Rattle.st_lines.proofs.Common.{◌++◌, ◌∙◌, refl, ap, codes, decimal, lf, bank_of, thirteen_pieces, stall_name}
use Rattle.st_lines.proofs.waits.fill_wait.Goals as goal

pub returns : goal.returns
returns c =
    let x = c.args.wait.now in
    thirteen_pieces (codes "WAIT ") (decimal x.from) (codes " ") (decimal x.to) (codes " ") (stall_name x.why) (codes " WORD ") (decimal x.word)
    (codes " READ ") (decimal x.read) (codes " BANK ") (decimal (bank_of x.read)) lf
    _ _ (decimal (bank_of x.read) ++ c.put_word.new.self) _ _ _ _ _ _ _ _ _ _ _ c.clear.ensures c.put_word.ensures refl c.put_bank.ensures.bytes
    (c.put_decimal.ensures.bytes ∙ ap (λ n. decimal n ++ c.put_bank.new.line) c.from.ensures) c.put_word-2.ensures
    (c.put_decimal-2.ensures.bytes ∙ ap (λ n. decimal n ++ c.put_word-2.new.self) c.from-2.ensures) c.put_word-3.ensures c.put_stall.ensures.bytes
    c.put_word-4.ensures c.put_near.ensures.bytes c.put_word-5.ensures c.put_near-2.ensures.bytes c.put_word-6.ensures
