use Rattle.st_lines.proofs.Common.{◌++◌, ◌∙◌, ap, codes, decimal, lf, role_text, supply_text}
use Rattle.st_lines.proofs.UseLemmas.{six_pieces}
use Rattle.st_lines.proofs.uses.fill_use.Goals as goal

pub returns : goal.returns
returns c =
    six_pieces (codes "USE ") (role_text c.args.used.now.role) (codes " ") (decimal c.args.used.now.word)
    (supply_text c.args.n c.args.end c.args.used.now.word c.args.used.now.supply) lf _ _ _ _ _ c.clear.ensures c.put_word.ensures c.put_supply.ensures.bytes
    (c.put_decimal.ensures.bytes ∙ ap (λ n. decimal n ++ c.put_supply.new.line.bytes) c.from.ensures) c.put_role.ensures
