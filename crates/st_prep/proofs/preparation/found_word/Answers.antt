use Rattle.st_prep.proofs.Common.{arith, rules}
use Rattle.st_prep.proofs.PlanLemmas.{without-turned}
use Rattle.st_prep.proofs.preparation.found_word.Goals as goal

pub returns-in-Some : goal.returns-in-Some
returns-in-Some c =
    rw (without-turned c.word-word.result c.indicator.result (omega arith) (omega arith), c.indicator.ensures) (search (rules, arith))
