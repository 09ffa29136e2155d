use Rattle.st_account.proofs.Common.{sym, ◌∙◌, same_lines}
use Rattle.st_account.proofs.RoundLemmas.{ended-all, ended-none, end-there}
use Rattle.st_account.proofs.passing.finish_run.Goals as goal

pub returns-then-until-eq0-clause-lines : goal.returns-then-until-eq0-clause-lines
returns-then-until-eq0-clause-lines g c p can over =
    same_lines _ _ _ _ _ (sym (ended-all p c.args.account.now c.args.until c.if-until-eq0.true)) (c.finish.ensures.lines p can over)

pub returns-clause-lines : goal.returns-clause-lines
returns-clause-lines g c p can over =
    let a = c.args.account.now in
    same_lines _ _ _ _ _
    (end-there p.moment a.state a.last.tick can.is.state can.is.tick ∙ sym (ended-none p a c.args.until c.if-until-eq0.false)) c.finish_sums.ensures.lines

pub finish_sums-requires : goal.finish_sums-requires
finish_sums-requires g c = c.requires.behind.1.run.waiting
