-- Proofs of the laws of the ticks of all entries.
use Rattle.std.proofs.Common.{arith, [], ◌≡◌, ◌≤◌, ℕ, Option, None, Some, refl}
use Rattle.st_rows.specs.Rows.{row_of_entry, address_tick, preparation_tick, tick_a, tick_p, tick_c, issue_after_entry, bus_a, opening_issue, wanted_from, operands}
use Rattle.st_rows.proofs.Awaited.{awaited-own, awaited-target, ready-after}
use Rattle.st_rows.proofs.Stages.{c-within}
use Rattle.st_rows.proofs.Tight.{tight-after}
use Rattle.st_rows.proofs.Fills.{first-late, second-late, fills-ready, fills-decide}
use Rattle.st_rows.proofs.Sooner.{read-sooner, answer-sooner, requested-sooner, row-sooner, after-sooner, order-after, covered-after, hazard_free-behind, rows-sooner, opening-sooner, opening-order, opening-covered, none-falls}
use Rattle.st_rows.proofs.Older.{older-after, row-kept, after-kept}
use Rattle.st_rows.proofs.Served.{served-asked, few-asked, most-asked, free-one_if, made-bounds, served-fetches, served-formed, served-prepared, served-uses, few-uses}
use Rattle.st_rows.specs.BusTimes.{accept_at, Read}
use Rattle.st_rows.proofs.Within.{delay-bounds}
use Rattle.st_rows.proofs.Parts.{asked-parts, two-parts, a-p, at-prepared, free-fetched, free-formed, issue-formed, issue-done, free-done}
use Rattle.std.specs.Prelude.{IfSome}
use Rattle.st_rows.proofs.Each.{each-fetch, each-side, each-operand, each-following, each-of-data}
use Rattle.st_rows.proofs.MadeLemmas.{all-made, made-more}
use Rattle.st_rows.specs.Laws.{RowsAreInOrder, CompletionsAreBounded, OperandsAreThereBeforeCompletion, ReadsAreNoLater, EntriesAreNoLater, MoreLevelsAreNoLater, OlderEntriesAreDoneBefore, OlderEntriesDecideNothing, RowsMakeTheirReads, ReadsComeInOrder, MadeReadsAreAnsweredSoon, EntriesAskInParts, ReadsAreWantedInTime, BusesAreFreeInTime, LateReadsChangeNothing, UsesMakeTheirReads}
use Rattle.st_rows.proofs.UseLemmas.{uses-append}

pub rows_are_in_order : RowsAreInOrder
unfolding row_of_entry tick_a address_tick tick_p preparation_tick tick_c
rows_are_in_order = record {
  address = λ ds n f e. (omega arith, omega arith);
  answers = λ ds n f e. omega arith;
  awaited = λ ds n f e. omega arith;
  writers = λ ds f e i. (awaited-own ds f e i, awaited-target ds f e i);
  alone = λ ds n f e alone. rw alone (omega arith);
  prepared = λ ds n f e. omega arith;
  levels = λ ds n f e. omega arith;
  ready = λ ds n f e. ready-after ds n f e;
  done = λ ds n f e entry. (omega (arith, entry.costs.0), omega (arith, entry.costs.0));
}

pub completions_are_bounded : CompletionsAreBounded
unfolding issue_after_entry
completions_are_bounded = record {
  tight = λ most n ds f e are entry tight. tight-after most ds are n f e entry tight;
  bound = λ most n ds f e are entry tight. omega (arith, c-within most ds are f e entry tight n);
}

pub operands_are_there_before_completion : OperandsAreThereBeforeCompletion
unfolding row_of_entry tick_c
operands_are_there_before_completion = record {
  first = λ most n ds f e are some. first-late most ds are f.past (bus_a ds f e) e.reads.one (tick_p ds n f e) some;
  second = λ most n ds f e are some. second-late most ds are f.past (bus_a ds f e) e.reads.one (tick_p ds n f e) some;
  ready = λ most n i ds f e tight. fills-ready most n i ds f e tight;
  done = λ most n i ds f e tight entry. omega (arith, entry.costs.0, fills-ready most n i ds f e tight);
  last = λ most n ds f e tight few none. fills-decide most n ds f e tight few none;
}

pub reads_are_no_later : ReadsAreNoLater
reads_are_no_later = record {
  read = λ d ds b bus w want late are is low. (read-sooner d ds are b bus w want late is low, answer-sooner d ds are b bus w want late is low);
  word = λ d ds b bus w want late are is low. requested-sooner d ds are b bus w want late is low;
}

pub entries_are_no_later : EntriesAreNoLater
entries_are_no_later = record {
  row = λ d m n ds f g e earlier are more is order covered hazard_free.
      row-sooner d ds are m n more f g e is order (hazard_free-behind f.past earlier e covered hazard_free);
  after = λ d m n ds f g e earlier are more is order covered hazard_free.
      (after-sooner d ds are m n more f g e is order (hazard_free-behind f.past earlier e covered hazard_free), order-after ds n g e order, covered-after ds m f e earlier covered);
}

pub more_levels_are_no_later : MoreLevelsAreNoLater
more_levels_are_no_later = λ d m n start ds banks es are more hazard_free.
    rows-sooner d ds are m n more es (opening_issue banks start) (opening_issue banks start) [] (opening-sooner banks start) (opening-order banks start)
    (opening-covered banks start) hazard_free

pub older_entries_are_done_before : OlderEntriesAreDoneBefore
older_entries_are_done_before = record {
  opening = λ n start banks. (opening-order banks start, λ j back. omega (arith, none-falls 8 j));
  after = λ ds n f e some order. (order-after ds n f e order, older-after ds n f e some order);
}

pub older_entries_decide_nothing : OlderEntriesDecideNothing
older_entries_decide_nothing = record {
  row = λ ds n f e some old. row-kept ds n f e some old;
  after = λ ds n f e some old. after-kept ds n f e some old;
}

pub uses_make_their_reads : UsesMakeTheirReads
uses_make_their_reads = record {
  bus = λ ds past s xs. served-uses ds past s xs;
  few = λ ds past s xs. few-uses ds past s xs;
  parts = λ ds past s xs ys. uses-append ds past s xs ys;
}

pub rows_make_their_reads : RowsMakeTheirReads
rows_make_their_reads = record {
  bus = λ ds n f e. served-asked ds n f e;
  few = λ ds n f e. few-asked ds n f e;
  most = λ ds n f e. most-asked ds n f e;
}

pub reads_come_in_order : ReadsComeInOrder
reads_come_in_order = λ most ds b r are.
    let known = delay-bounds most ds (accept_at b r.w r.want) are in
    (omega arith, omega arith, free-one_if ds r.fetch b r.w r.want, omega arith, omega arith)

pub made_reads_are_answered_soon : MadeReadsAreAnsweredSoon
made_reads_are_answered_soon = λ most t ds reads b are near early. made-bounds most ds are t reads b near early

pub entries_ask_in_parts : EntriesAskInParts
entries_ask_in_parts = record {
  parts = λ ds n f e. asked-parts ds n f e;
  two = λ ds n f e. two-parts ds n f e;
  fetches = λ ds f e. served-fetches ds f e;
  formed = λ ds f e. served-formed ds f e;
  prepared = λ ds n f e. served-prepared ds n f e;
}

if-any : (P : ℕ → Type 0) (side : Option ℕ) → ((w : ℕ) → P w) → IfSome side P
if-any P None all = tt
if-any P (Some w) all = all w

pub reads_are_wanted_in_time : ReadsAreWantedInTime
reads_are_wanted_in_time = record {
  fetches = λ ds f e.
      each-fetch (λ (r : Read). wanted_from f ≤ r.want) ds f e (λ v want least most low. low) (λ v want least most low. low);
  side = λ ds f e.
      each-side (λ (r : Read). r.want ≡ tick_a ds f e) f.past e.side (tick_a ds f e) (if-any (λ w. tick_a ds f e ≡ tick_a ds f e) e.side (λ w. refl));
  prepared = λ ds n f e. at-prepared ds n f e;
  «data» = λ ds n f e.
      let P = λ (r : Read). tick_a ds f e ≤ r.want in
      let late = a-p ds n f e in
      each-of-data P ds n f e
      (each-side P f.past e.side (tick_a ds f e) (if-any (λ w. tick_a ds f e ≤ tick_a ds f e) e.side (λ w. omega arith)))
      (each-operand P f.past e.reads (tick_p ds n f e) (λ v least most. late) (λ v least most. late))
      (each-following P ds (operands ds n f e).bus e (tick_p ds n f e) (λ follows v least most. late));
}

pub buses_are_free_in_time : BusesAreFreeInTime
buses_are_free_in_time = record {
  before = λ ds f e. issue-formed ds f e;
  fetched = λ most n ds f e are entry tight. free-fetched most ds are n f e entry tight;
  formed = λ most n ds f e are entry tight. free-formed most ds are n f e entry tight;
  done = λ most n ds f e are entry tight. (issue-done most ds are n f e entry tight, free-done most ds are n f e entry tight);
}

pub late_reads_change_nothing : LateReadsChangeNothing
late_reads_change_nothing = record {
  all = λ ds t xs b low. all-made ds t xs b low;
  late = λ ds t xs ys b late. made-more ds t xs ys b late;
}
