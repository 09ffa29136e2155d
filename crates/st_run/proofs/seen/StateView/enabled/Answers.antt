use Rattle.st_run.proofs.Common.{◌∙◌, ap, Machine}
use Rattle.st_run.proofs.SeenLemmas.{enabled-seen}
use Rattle.st_run.proofs.seen.StateView.enabled.Goals as goal

pub returns : goal.returns
returns c =
    c.is_enabled.ensures
    ∙ enabled-seen (λ x. x.now) c.self.inside.index c.self.inside.state.now
    ∙ ap (λ (s : Machine). s.enabled) c.self.view_is
