use Rattle.st_prep.proofs.Common.{sym, subst, ◌∙◌, ap, Prepared, IsNeeds}
use Rattle.st_prep.proofs.PreparedLemmas.{fill-prepared, filled-fits, filled-place, is_needs, look-needs}
use Rattle.st_prep.proofs.preparation.prepare_without_side.Goals as goal

pub returns-clause-place : goal.returns-clause-place
returns-clause-place c = ap (λ (p : Prepared). p.place) c.fill.ensures ∙ filled-place c.resolved-resolved.result.fault _ _ _ _

pub returns-clause-ranges : goal.returns-clause-ranges
returns-clause-ranges c =
    filled-fits _ _ _ (fill-prepared _ _ _ _ c.fill.ensures c.resolved-resolved.ensures.value)
    (record { place = c.requires.place; fetched = c.requires.fetched; words = c.fits-x }) c.zero_for.ensures.shape

pub returns-clause-shape : goal.returns-clause-shape
returns-clause-shape c =
    subst IsNeeds (sym (look-needs _ _ _ c.needs-needs.ensures c.resolved-resolved.ensures.value)) (is_needs _)
