use Rattle.st_account.proofs.Common.{length, refl, ◌∙◌, ap, Account}
use Rattle.st_account.proofs.NextLemmas.{next-is}
use Rattle.st_account.proofs.StallLemmas.{waiting-same, adds-same}
use Rattle.st_account.proofs.account.Account.skip_to_next.Goals as goal

pub returns-clause-border : goal.returns-clause-border
returns-clause-border c = c.enter_next-border.ensures.border

pub add_row-requires : goal.add_row-requires
add_row-requires c =
    waiting-same c.args.self.now.last c.enter_next-border.new.self.last c.args.self.now.waiting.totals _ c.enter_next-border.ensures.last
    (ap (λ (x : Account). x.waiting.totals) c.enter_next-border.ensures.rest) c.requires.behind.1.run.waiting

pub returns-clause-waits : goal.returns-clause-waits
returns-clause-waits c =
    adds-same _ _ _ _ _ _ c.enter_next-border.ensures.last (ap (λ (x : Account). x.waiting.totals) c.enter_next-border.ensures.rest) c.add_row.ensures

pub returns-clause-next : goal.returns-clause-next
returns-clause-next c p can going =
    next-is p c.args.self.now can c.enter_next-border.new.self c.enter_next-border.result c.enter_next-border.ensures going _ refl refl refl refl refl refl refl c.clear_if.ensures
    (returns-clause-waits c).within

pub returns-clause-size : goal.returns-clause-size
returns-clause-size c = ap length c.copy_changed.ensures ∙ c.shape.ensures.size
