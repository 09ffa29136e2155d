use Rattle.st_prep.proofs.Common.{sym, ◌∙◌, drop, instruction_at}
use Rattle.st_prep.proofs.GivenLemmas.{at-first, differs, same_test, found-short, found-long}
use Rattle.st_prep.proofs.PreparedLemmas.{none-there}
use Rattle.st_prep.proofs.fetching.halves_known.Goals as goal

pub returns-then-length_in_halves-ne2 : goal.returns-then-length_in_halves-ne2
unfolding instruction_at
returns-then-length_in_halves-ne2 c = λ k f found.
    at-first _ _ _ _ c.args.h k c.args.contents.now
    (sym c.may.ensures.value ∙ none-there c.may.result (sym (c.if-is_some.ensures))) c.requires.some
    ∙ found-short _ _ c.args.h _ c.half_of-first.result k f (drop 1 c.args.contents.now) c.half_of-first.ensures
    (differs _ 2 (λ e. c.if-length_in_halves-ne2.true (c.length_in_halves.ensures ∙ e))) found

pub returns : goal.returns
unfolding instruction_at
returns c = λ k f found.
    at-first _ _ _ _ c.args.h k c.args.contents.now
    (sym c.may.ensures.value ∙ none-there c.may.result (sym (c.if-is_some.ensures))) c.requires.some
    ∙ found-long _ _ c.args.h _ c.half_of-first.result k (drop 1 c.args.contents.now) c.half_of-first.ensures
    (same_test _ 2 (sym c.length_in_halves.ensures ∙ c.if-length_in_halves-ne2.false))
    ∙ c.in_ok-second.ensures c.half_of-first.result k f found
