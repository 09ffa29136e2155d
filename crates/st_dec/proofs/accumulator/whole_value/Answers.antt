use Rattle.st_dec.proofs.Common.{sym, ◌∙◌}
use Rattle.st_dec.proofs.ListLemmas.{value-bytes}
use Rattle.st_dec.proofs.PartLemmas.{value_small}
use Rattle.st_dec.proofs.accumulator.whole_value.Goals as goal

pub returns-clause-value : goal.returns-clause-value
returns-clause-value c = c.digits_value.ensures.value ∙ sym (value-bytes 32 c.args.mag)

pub returns-clause-bound : goal.returns-clause-bound
returns-clause-bound c = rw c.digits_value.ensures.value (value_small c.args.mag)
