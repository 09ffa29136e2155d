use Rattle.st_prep.proofs.Common.{sym, subst, IsPrepared}
use Rattle.st_prep.proofs.PlanLemmas.{plan-prepared}
use Rattle.st_prep.proofs.PlainLemmas.{filled-plan, filled-side}
use Rattle.st_prep.proofs.preparation.plan_in.Goals as goal

pub returns-clause-value : goal.returns-clause-value
returns-clause-value c =
    filled-plan _ _ _ _ _ _ c.place_of-p.ensures.value c.index_words-x.ensures c.fetch_all-fetched.ensures.value c.fill_fetched.ensures.value

pub returns-clause-ranges : goal.returns-clause-ranges
returns-clause-ranges c =
    subst IsPrepared (sym (filled-plan _ _ _ _ _ _ c.place_of-p.ensures.value c.index_words-x.ensures c.fetch_all-fetched.ensures.value
    c.fill_fetched.ensures.value)) (plan-prepared _ _ c.place_of-p.ensures.machine c.requires)

pub returns-clause-side : goal.returns-clause-side
returns-clause-side c =
    filled-side _ _ _ _ _ _ c.place_of-p.ensures.value c.index_words-x.ensures c.fetch_all-fetched.ensures.value c.fill_fetched.ensures.side
