use Rattle.st_fetch.proofs.Common.{is_some, sym, ap, ◌∙◌}
use Rattle.st_fetch.proofs.OldestFirst.{is_held-found}
use Rattle.st_fetch.proofs.held.Hold.held.Goals as goal

pub returns-clause-value : goal.returns-clause-value
returns-clause-value c = c.is_some.ensures ∙ ap is_some c.find.ensures.value ∙ sym (is_held-found c.args.self.now c.args.w)
