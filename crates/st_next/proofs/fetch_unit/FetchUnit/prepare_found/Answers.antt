use Rattle.st_next.proofs.Common.{◌∙◌}
use Rattle.st_next.proofs.Steps.{shown-as}
use Rattle.st_next.proofs.fetch_unit.FetchUnit.prepare_found.Goals as goal

pub returns : goal.returns
returns c = record {
  value =
      c.show.ensures
      ∙ shown-as c.args.self.now c.args.x.now c.args.state.now _ _ _ _ c.of.ensures c.prepare_without_side-self.ensures.needs c.prepare_without_side-self.ensures.value;
}
