use Rattle.st_lines.proofs.Common.{Bool, ◌++◌, ◌∙◌, ap, codes, decimal, flag, bank_of, is_before}
use Rattle.st_lines.proofs.UseLemmas.{seven_pairs}
use Rattle.st_lines.proofs.uses.put_read.Goals as goal

pub returns-clause-bytes : goal.returns-clause-bytes
returns-clause-bytes c =
    let t = c.args.ticks.now in
    seven_pairs (codes " READ BANK ") (decimal (bank_of c.args.w)) (codes " WANT ") (decimal t.want) (codes " TURN ") (decimal t.turn)
    (codes " FREE ") (decimal t.free) (codes " ACCEPT ") (decimal t.accept) (codes " ANSWER ") (decimal t.answer)
    (codes " MADE ") (flag (is_before c.args.end t.accept)) _ _ _ _ _ _ _ _ _ _ _ _ _
    (c.put_made.ensures.bytes ∙ ap (λ (b : Bool). (codes " MADE " ++ flag b) ++ c.args.line.now) c.is_before.ensures)
    c.put_tick.ensures.bytes c.put_word.ensures c.put_tick-2.ensures.bytes c.put_word-2.ensures c.put_tick-3.ensures.bytes c.put_word-3.ensures
    c.put_tick-4.ensures.bytes c.put_word-4.ensures c.put_tick-5.ensures.bytes c.put_word-5.ensures c.put_bank.ensures.bytes
