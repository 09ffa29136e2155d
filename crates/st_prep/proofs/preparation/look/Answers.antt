use Rattle.st_prep.proofs.Common.{sym, subst, ap, ◌∙◌, needs, IsNeeds}
use Rattle.st_prep.proofs.PreparedLemmas.{is_needs, look-needs}
use Rattle.st_prep.proofs.PlanLemmas.{decode_context-seen}
use Rattle.st_prep.proofs.preparation.look.Goals as goal

pub returns-clause-ranges : goal.returns-clause-ranges
returns-clause-ranges c =
    subst IsNeeds (sym (look-needs _ _ _ c.needs.ensures c.resolved.ensures.value)) (is_needs _)

pub returns-clause-states : goal.returns-clause-states
returns-clause-states c = λ s h. look-needs _ _ _ c.needs.ensures c.resolved.ensures.value ∙ ap needs (sym (decode_context-seen s _ h))
