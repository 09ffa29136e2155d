use Rattle.std.proofs.lemmas.Result.{IfOk-weaker}
use Rattle.st_tally.proofs.TableLemmas.{no-rows, within-none}
use Rattle.st_tally.proofs.tables.Tables.new.Goals as goal

pub returns-clause-tally : goal.returns-clause-tally
returns-clause-tally c = IfOk-weaker c.no_tables.result _ _ (λ t h. no-rows t h) c.no_tables.ensures.none

pub returns-clause-within : goal.returns-clause-within
returns-clause-within c = IfOk-weaker c.no_tables.result _ _ (λ t h. within-none t h) c.no_tables.ensures.none

pub returns-clause-levels : goal.returns-clause-levels
returns-clause-levels c = IfOk-weaker c.no_tables.result _ _ (λ t h. h.level_ticks) c.no_tables.ensures.none
