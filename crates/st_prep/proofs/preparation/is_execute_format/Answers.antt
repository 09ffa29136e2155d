use Rattle.st_prep.proofs.Common.{sym, ◌∙◌, ap, spelled_as, is_execute}
use Rattle.st_prep.proofs.PlainLemmas.{whole-plain}
use Rattle.st_prep.proofs.preparation.is_execute_format.Goals as goal

pub returns-in-Whole : goal.returns-in-Whole
returns-in-Whole c = λ first second.
    sym (ap (λ f. is_execute (spelled_as f first second)) c.in-Whole.is ∙ whole-plain _ first second)
