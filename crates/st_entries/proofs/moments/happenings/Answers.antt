use Rattle.std.proofs.Common.{rules}
use Rattle.std.proofs.lemmas.List.Sorted.{answers_always, IsNonDecreasingBy-from_sort}
use Rattle.st_entries.specs.Phases.{first_tick}
use Rattle.st_entries.specs.Moments.{happenings}
use Rattle.st_entries.specs.declared.moments.LogMoment.{LogMoment}
use Rattle.st_entries.proofs.Sorting.{sorted_in_order}
use Rattle.st_entries.proofs.moments.happenings.Goals as goal

pub returns : goal.returns
unfolding happenings
returns c =
    let starts = answers_always _ _ _ (λ f a r next called. search rules) in
    let begun = sorted_in_order first_tick _ _ (IsNonDecreasingBy-from_sort first_tick _ (c.in_ok-sort_by_key.ensures.sorted first_tick starts))
    (c.sort_by_key.ensures.stable first_tick starts) in
    let tick = λ (m : LogMoment). m.tick in
    let keys = answers_always _ _ _ (λ f a r next called. search rules) in
    let sorted = sorted_in_order tick _ _ (IsNonDecreasingBy-from_sort tick _ (c.in_ok-sort_by_key-2.ensures.sorted tick keys))
    (c.sort_by_key-2.ensures.stable tick keys) in
    search rules
