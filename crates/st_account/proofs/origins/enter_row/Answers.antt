use Rattle.st_account.proofs.Common.{◌<◌, length, sym, ◌∙◌, subst, IfSome}
use Rattle.std.proofs.lemmas.Grind.{get_or_default_zero}
use Rattle.st_account.proofs.FirstLemmas.{first-skipped, row-free, row-taken}
use Rattle.st_account.proofs.origins.enter_row.Goals as goal

pub returns-then-index-eq0-clause-cards : goal.returns-then-index-eq0-clause-cards
returns-then-index-eq0-clause-cards c h rows =
    let is = sym c.in-Some.ensures.value in
    let inside = subst (λ o. IfSome o (λ k. k < length c.args.cards.now.items)) is c.requires.within in
    row-free c.args.cards.now.items c.args.row.now rows c.in-Some.h h is inside c.requires.number
    (sym (get_or_default_zero c.args.cards.now.items c.in-Some.h c.index.result.now inside) ∙ sym c.index.ensures ∙ c.if-index-eq0.true)

pub returns-else-index-eq0-clause-cards : goal.returns-else-index-eq0-clause-cards
returns-else-index-eq0-clause-cards c h rows =
    let is = sym c.in-Some.ensures.value in
    let inside = subst (λ o. IfSome o (λ k. k < length c.args.cards.now.items)) is c.requires.within in
    row-taken c.args.cards.now.items c.args.row.now rows c.in-Some.h h is
    (λ free. c.if-index-eq0.false (c.index.ensures ∙ get_or_default_zero c.args.cards.now.items c.in-Some.h c.index.result.now inside ∙ free))

pub returns-in_default-clause-cards : goal.returns-in_default-clause-cards
returns-in_default-clause-cards c h rows = first-skipped c.args.cards.now.items c.args.row.now rows h (sym c.in_default.ensures.value)
