use Rattle.st_prep.proofs.Common.{sym, ◌∙◌, own_use}
use Rattle.st_prep.proofs.GivenLemmas.{other-found}
use Rattle.st_prep.proofs.fetching.own_or_target.Goals as goal

pub returns-clause-value : goal.returns-clause-value
unfolding own_use
returns-clause-value c = sym (other-found _ _ _ _ (sym c.is_execute.ensures ∙ c.if-is_execute.false))
