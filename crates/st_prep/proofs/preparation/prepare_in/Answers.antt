use Rattle.st_prep.proofs.Common.{◌∙◌}
use Rattle.st_prep.proofs.PreparedLemmas.{fill-prepared, filled-fits}
use Rattle.st_prep.proofs.PlanLemmas.{prepared-plan}
use Rattle.st_prep.proofs.preparation.prepare_in.Goals as goal

pub change_index-requires : goal.change_index-requires
change_index-requires c =
    (filled-fits _ _ _ (fill-prepared _ _ _ _ c.fill.ensures c.resolved-resolved.ensures.value)
    (record { place = c.requires.place; fetched = c.requires.fetched; words = c.fits-x }) c.read_shape.ensures).change

pub returns-clause-ranges : goal.returns-clause-ranges
returns-clause-ranges c =
    filled-fits _ _ _ (fill-prepared _ _ _ _ c.fill.ensures c.resolved-resolved.ensures.value)
    (record { place = c.requires.place; fetched = c.requires.fetched; words = c.fits-x }) c.read_shape.ensures

pub returns-clause-states : goal.returns-clause-states
returns-clause-states c = λ s h e.
    fill-prepared _ _ _ _ c.fill.ensures c.resolved-resolved.ensures.value ∙ prepared-plan s _ c.args.read h e
