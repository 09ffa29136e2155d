use Rattle.st_prep.proofs.Common.{length, sym, ◌∙◌, instruction_at}
use Rattle.st_prep.proofs.GivenLemmas.{is_none, is_some, at-wants, at-first}
use Rattle.st_prep.proofs.fetching.part_at.Goals as goal

pub returns-then-is_empty-clause-value : goal.returns-then-is_empty-clause-value
unfolding instruction_at
returns-then-is_empty-clause-value c = λ t k.
    let none = is_none (length c.args.contents.now) (sym c.is_empty.ensures ∙ c.if-is_empty.true) in
    at-wants _ t _ _ c.args.h k _ (sym c.may.ensures.value ∙ c.in_default.is) none

pub returns-else-is_empty-clause-value : goal.returns-else-is_empty-clause-value
unfolding instruction_at
returns-else-is_empty-clause-value c = λ t k.
    let some = is_some (length c.args.contents.now) (sym c.is_empty.ensures ∙ c.if-is_empty.false) in
    at-first _ t _ _ c.args.h k _ (sym c.may.ensures.value ∙ c.in_default.is) some ∙ c.with_first.ensures.value t k
