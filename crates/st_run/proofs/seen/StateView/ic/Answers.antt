use Rattle.st_run.proofs.Common.{◌∙◌, ap, Machine}
use Rattle.st_run.proofs.SeenLemmas.{counter-seen}
use Rattle.st_run.proofs.seen.StateView.ic.Goals as goal

pub returns-clause-value : goal.returns-clause-value
returns-clause-value c =
    c.counter_in.ensures.value
    ∙ counter-seen (λ x. x.now) c.self.inside.index c.self.inside.state.now
    ∙ ap (λ (s : Machine). s.ic) c.self.view_is
