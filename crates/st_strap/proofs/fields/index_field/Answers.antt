use Rattle.st_strap.proofs.Common.{index_fields}
use Rattle.st_strap.proofs.TableBounds.{reading_below}
use Rattle.st_strap.proofs.fields.index_field.Goals as goal

pub returns-clause-within : goal.returns-clause-within
unfolding index_fields
returns-clause-within c = reading_below c.args.field.now _ _ _ c.row_of.ensures c.ok_or.ensures.value
