use Rattle.st_lines.proofs.Common.{◌++◌, ◌-◌, ◌∙◌, ap, codes, decimal}
use Rattle.st_lines.proofs.UseLemmas.{four_before}
use Rattle.st_lines.proofs.uses.put_writer.Goals as goal

pub returns-clause-bytes : goal.returns-clause-bytes
returns-clause-bytes c =
    four_before (codes " FORWARDED ROW ") (decimal (c.args.n - c.args.writer.back)) (codes " DONE ") (decimal c.args.writer.done) _ _ _ _ _
    c.put_decimal.ensures.bytes c.put_word.ensures
    (c.put_decimal-2.ensures.bytes ∙ ap (λ n. decimal n ++ c.put_word.new.self) (c.from-2.ensures ∙ c.saturating_sub.ensures ∙ ap (λ k. c.args.n - k) c.from.ensures))
    c.put_word-2.ensures
