-- Proofs of the laws of levels that are the entries in flight after a state.
use Rattle.st_ring.specs.Levels.{LevelsView, AreAhead, AreNotDone}
use Rattle.st_segment.specs.Alone.{is_word_written}
use Rattle.st_state.specs.Machine.{Machine}
use Rattle.std.proofs.Common.{length, refl, ap, ◌∙◌, ◌<◌, arith, ◌+◌, ◌≤◌, subst, ◌≡◌, ℕ, false, List, Option}
use Rattle.st_ring.proofs.LevelLemmas.{levels-issue, levels-oldest, levels-prepared, length-ahead}
use Rattle.st_rows.specs.Rows.{row_of_entry}
use Rattle.st_ring.proofs.AloneLemmas.{two-ahead}
use Rattle.st_rows.specs.Entries.{latest_done}
use Rattle.st_rows.specs.declared.issue.IssueState.{IssueState}
use Rattle.st_segment.specs.Ahead.{issue_behind}
use Rattle.st_ring.proofs.WriterLemmas.{unwritten-by, take-latest}
use Rattle.st_ring.proofs.PassLemmas.{ahead-same}
use Rattle.st_ring.proofs.OrderLemmas.{prepared-order, done-order, not-done, still-waits, due-row}
use Rattle.st_ring.proofs.NoLevels.{none-ahead, none-last}
use Rattle.st_ring.specs.Laws.{LevelsAreTheEntriesAhead, LevelsThatAreNotDoneRunAhead, WritersAreSeen, LevelsPassSignalsOver, LevelsComeInOrder, NothingIsAheadWithoutLevels}
use Rattle.st_rows.proofs.Laws.{rows_are_in_order}
use Rattle.st_segment.proofs.Laws.{entries_are_in_range, predictions_leave_the_rest}

pub levels_are_the_entries_ahead : LevelsAreTheEntriesAhead
levels_are_the_entries_ahead = record {
  issue = λ ds n tick t s f last v h. levels-issue ds n tick t s f last v.ring v.plans h.levels;
  oldest = λ ds n tick t s f last v h. levels-oldest ds n tick t s f last v.ring v.plans h.levels;
  prepared = λ ds n tick now m t s f last v h each late more.
      let same = levels-prepared ds n tick now m t _ s _ f last v.ring v.plans h.levels each refl refl late more in
      (same, ap length same ∙ length-ahead ds n (length v.ring) t s f);
}

pub levels_that_are_not_done_run_ahead : LevelsThatAreNotDoneRunAhead
levels_that_are_not_done_run_ahead = λ ds n tick now t s f last v h early late two.
    two-ahead ds n tick now (λ f e alone.
    let a : f.c < (row_of_entry ds n f e).a = rows_are_in_order.alone ds n f e alone in
    let p : (row_of_entry ds n f e).a < (row_of_entry ds n f e).p = rows_are_in_order.prepared ds n f e in
    omega arith) t s f last v.ring v.plans h.levels early late two

written-seen : (ds : List ℕ) (n tick now j w : ℕ) (t : Option ℕ) (s : Machine) (f last : IssueState) (v : LevelsView) →
    AreAhead ds n tick t s f last v → AreNotDone now v → j ≤ length v.ring → length v.ring ≤ 8 →
    latest_done (issue_behind ds n j t s f).past w ≤ now → is_word_written j t s w ≡ false
written-seen ds n tick now j w t s f last v h open_c here few early =
    (unwritten-by ds n tick now w j 0 t s f last v.ring v.plans h.levels open_c here (omega arith)
    (take-latest (0 + j) (issue_behind ds n j t s f).past w now early)).0

last-seen : (ds : List ℕ) (n tick now w : ℕ) (t : Option ℕ) (s : Machine) (f last : IssueState) (v : LevelsView) →
    AreAhead ds n tick t s f last v → AreNotDone now v → length v.ring ≤ 8 →
    latest_done last.past w ≤ now → is_word_written (length v.ring) t s w ≡ false
last-seen ds n tick now w t s f last v h open_c few early =
    written-seen ds n tick now (length v.ring) w t s f last v h open_c (omega arith) few
    (subst (λ (g : IssueState). latest_done g.past w ≤ now) (levels-issue ds n tick t s f last v.ring v.plans h.levels) early)

pub writers_are_seen : WritersAreSeen
writers_are_seen = record {
  written = written-seen;
  last = last-seen;
  words = λ ds n tick now w t s f last v m some h open_c few above early.
      predictions_leave_the_rest.storage (length v.ring) t s w m some above (last-seen ds n tick now w t s f last v h open_c few early);
}

pub levels_pass_signals_over : LevelsPassSignalsOver
levels_pass_signals_over = ahead-same

pub levels_come_in_order : LevelsComeInOrder
levels_come_in_order = record {
  prepared = λ ds n tick t s f last v h.
      prepared-order ds n tick (λ g e.
      let a : g.p < (row_of_entry ds n g e).a = (rows_are_in_order.address ds n g e).0 in
      let p : (row_of_entry ds n g e).a < (row_of_entry ds n g e).p = rows_are_in_order.prepared ds n g e in
      omega arith) f.p t s f last v.ring v.plans h.levels (omega arith);
  completed = λ ds n tick t s f last v m some h.
      done-order ds n tick (λ g e is. (rows_are_in_order.done ds n g e is).1) entries_are_in_range.ranges
      f.c t s f last v.ring v.plans m some h.levels (omega arith);
  behind = λ ds n tick now t s f last v m some h from.
      not-done ds n tick (λ g e is. (rows_are_in_order.done ds n g e is).1) entries_are_in_range.ranges
      now t s f last v.ring v.plans m some h.levels from;
  waits = λ ds n tick now t s f last v m some h each due.
      still-waits ds n tick (λ g e is. (rows_are_in_order.done ds n g e is).1) entries_are_in_range.ranges
      now t s f last v.ring v.plans m some h.levels each due;
  due = λ ds n tick now t s f last v h due. due-row ds n tick now t s f last v.ring v.plans h.levels due;
}

pub nothing_is_ahead_without_levels : NothingIsAheadWithoutLevels
nothing_is_ahead_without_levels = record {
  none = none-ahead;
  only = λ ds n tick t s f last v h none. none-last ds n tick t s f last v.ring v.plans v.x h.levels h.index none;
}
