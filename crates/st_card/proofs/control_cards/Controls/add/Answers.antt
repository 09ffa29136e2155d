use Rattle.st_card.proofs.Common.{List, ℕ, length, ap, sym, ◌∙◌, arith, length-take, words, with_words}
use Rattle.st_card.proofs.LimitLemmas.{added-kept}
use Rattle.st_card.proofs.control_cards.Controls.add.Goals as goal

pub add_text-requires : goal.add_text-requires
add_text-requires c =
    let columns = ap (λ (s : List ℕ). length s) c.columns.ensures in
    omega (arith, columns ∙ length-take 72 c.args.text.now)

pub returns-in-Added-clause-limits : goal.returns-in-Added-clause-limits
returns-in-Added-clause-limits c =
    let wanted = ap (λ (s : List ℕ). with_words c.args.self.now (words s)) (sym c.columns.ensures) ∙ c.in-Added.ensures in
    added-kept c.args.self.now c.add_text.new.self c.args.text.now wanted
