-- Proofs of the laws of the look-ahead.
use Rattle.std.proofs.Common.{◌<◌, ◌≤◌, ◌+◌, arith, sym, ◌∙◌, ◌≡◌, true, ℕ, Bool, subst, None, List, All}
use Rattle.std.proofs.lemmas.List.Elements.{All-weaker}
use Rattle.st_ring.specs.declared.plans.PlannedRow.{PlannedRow}
use Rattle.st_ahead.proofs.OpenLevels.{levels-run}
use Rattle.st_ahead.specs.Forecast.{count, is_open, IsNextIf}
use Rattle.st_ahead.proofs.Due.{becomes-level, planned-open}
use Rattle.st_segment.specs.Entries.{entry}
use Rattle.st_segment.specs.Predictions.{predictions, table_behind}
use Rattle.st_segment.proofs.EntryRanges.{entry-ranges}
use Rattle.st_segment.proofs.PredictionLemmas.{behind-indicator, predictions-machine}
use Rattle.st_next.proofs.Contents.{words-entry, contents-same}
use Rattle.st_ahead.proofs.Further.{next-known}
use Rattle.st_ahead.proofs.Settling.{lookahead-goes}
use Rattle.st_ahead.proofs.Openings.{opening-lookahead}
use Rattle.st_rows.specs.Rows.{row_of_entry, tick_c}
use Rattle.st_ahead.proofs.SameLookahead.{lookahead-same, opened-same, lookahead-ahead}
use Rattle.st_ahead.proofs.Gone.{outlook-of}
use Rattle.st_ahead.proofs.Later.{AreOrdered, lookahead-later, banks-left, made-soon}
use Rattle.st_ahead.specs.Laws.{OpenLevelsRunAhead, NextEntriesAreKnown, PlannedEntriesBecomeLevels, InstructionWordsAreThoseOfTheRun, OpeningsLookAhead, SignalsLeaveLookaheads, LookaheadsAreLevels, TheBanksAreLeft}
use Rattle.st_ring.proofs.Laws.{levels_are_the_entries_ahead, levels_come_in_order, levels_that_are_not_done_run_ahead, writers_are_seen}
use Rattle.st_segment.proofs.Laws.{entries_are_in_range, predictions_go_on, predictions_leave_the_rest, index_words_run_ahead}
use Rattle.st_rows.proofs.Laws.{buses_are_free_in_time, reads_are_wanted_in_time, rows_are_in_order}

pub open_levels_run_ahead : OpenLevelsRunAhead
open_levels_run_ahead = λ ds n now t s f v is early late opened.
    levels-run ds n now t s f v.issue v.levels.ring v.levels.plans is.levels opened (λ two.
    levels_that_are_not_done_run_ahead ds n now (now + 1) t s f v.issue v.levels is
    early (All-weaker (λ (q : PlannedRow). now < q.c) (λ q. now + 1 ≤ q.c) (λ q h. omega arith) v.levels.plans late) two)

pub next_entries_are_known : NextEntriesAreKnown
next_entries_are_known = λ ds n tick now t s f v m i is late few run. record {
  machine = predictions_go_on.machine (count v) t s m i;
  index = index_words_run_ahead.state (count v) t s m i run ∙ sym is.index;
  origin = predictions_leave_the_rest.low (count v) t s 2 m i run (omega arith);
  bounds = predictions_leave_the_rest.low (count v) t s 3 m i run (omega arith);
  enabled = predictions_leave_the_rest.enabled (count v) t s m i run;
  storage = λ w above done. writers_are_seen.words ds n tick now w t s f v.issue v.levels m i is late few above done;
}

pub planned_entries_become_levels : PlannedEntriesBecomeLevels
planned_entries_become_levels = λ ds n now t s f v some most are few early is planned due.
    let opened : is_open v ≡ true = planned-open (is_open v) ds n (now + 1) t s v is.next planned in
    let run = open_levels_run_ahead ds n now t s f v is.ahead is.prepared is.not_done opened in
    becomes-level ds n now t s f v some most are few early is planned due run
    (next_entries_are_known ds n now now t s f v is.machine is.indicator is.ahead is.not_done (omega arith) run)

pub instruction_words_are_those_of_the_run : InstructionWordsAreThoseOfTheRun
instruction_words_are_those_of_the_run = record {
  held = λ ds n now w t s f v few lookahead opened above done.
      let is = lookahead-goes ds n now t s f v lookahead in
      let run = open_levels_run_ahead ds n now t s f v is.ahead is.prepared is.not_done opened in
      let before = next_entries_are_known ds n now now t s f v is.machine is.indicator is.ahead is.not_done few run in
      sym (before.storage w above done);
  words = λ ds n now t s f v few lookahead opened done.
      let is = lookahead-goes ds n now t s f v lookahead in
      let run = open_levels_run_ahead ds n now t s f v is.ahead is.prepared is.not_done opened in
      let before = next_entries_are_known ds n now now t s f v is.machine is.indicator is.ahead is.not_done few run in
      let next = (next-known ds n now now t s f v is opened).0 in
      let k = table_behind (count v) t in
      let u = predictions (count v) t s in
      let words = words-entry v.next.entry.own v.next.entry.target (entry k u) next.read_on.first
      (entry-ranges k u before.machine (behind-indicator (count v) t is.indicator)) in
      contents-same ds now v.issue v.levels.x s u v.next.entry.own v.next.entry.target before words
      (subst (λ (a : ℕ). a ≤ now) next.read_on.awaited done);
  fetched = λ ds n tick now t s f v lookahead planned.
      let opened = planned-open (is_open v) ds n now t s v lookahead.outlook.next planned in
      let next = (subst (λ (b : Bool). IsNextIf b ds n now t s v) opened lookahead.outlook.next).0 in
      (next.planned planned).found;
}

pub openings_look_ahead : OpeningsLookAhead
openings_look_ahead = opening-lookahead

pub signals_leave_lookaheads : SignalsLeaveLookaheads
signals_leave_lookaheads = record {
  lookahead = λ ds n tick now s u f v some most are is late done m beside.
      lookahead-same ds n tick now s u f v
      (lookahead-ahead ds n tick now (λ g e alone.
      let a : g.c < (row_of_entry ds n g e).a = rows_are_in_order.alone ds n g e alone in
      let p : (row_of_entry ds n g e).a < (row_of_entry ds n g e).p = rows_are_in_order.prepared ds n g e in
      omega arith) None s f v is late (omega arith)) is m beside;
  opening = opened-same;
}

pub lookaheads_are_levels : LookaheadsAreLevels
lookaheads_are_levels = λ ds n tick now t s f v some most are soon few is.
    let ordered : AreOrdered ds n = record {
      alone = rows_are_in_order.alone ds n;
      prepared = rows_are_in_order.prepared ds n;
      fetches = reads_are_wanted_in_time.fetches ds;
      behind = reads_are_wanted_in_time.«data» ds n;
    } in
    let order = levels_come_in_order.completed ds n tick t s f v.issue v.levels is.outlook.machine is.outlook.indicator is.outlook.ahead in
    let later = lookahead-later ds n tick now t s f v ordered soon (outlook-of ds n tick now t s f v is) order in
    (levels_are_the_entries_ahead.prepared ds n tick now n t s f v.issue v.levels is.outlook.ahead is.outlook.prepared later.prepared few).0

pub the_banks_are_left : TheBanksAreLeft
unfolding row_of_entry
the_banks_are_left = λ ds n tick now t s f v some most are next few first is done.
    let ordered : AreOrdered ds n = record {
      alone = rows_are_in_order.alone ds n;
      prepared = rows_are_in_order.prepared ds n;
      fetches = reads_are_wanted_in_time.fetches ds;
      behind = reads_are_wanted_in_time.«data» ds n;
    } in
    let order = levels_come_in_order.completed ds n tick t s f v.issue v.levels is.machine is.indicator is.ahead in
    let range = entries_are_in_range.ranges t s is.machine is.indicator in
    let free : f.bus.free ≤ tick_c ds n f (entry t s) =
    (buses_are_free_in_time.done 255 n ds f (entry t s) are range is.oldest).0 in
    let c_is : tick_c ds n f (entry t s) ≡ now = done in
    let opened = entries_are_in_range.ranges (table_behind (count v) t) (predictions (count v) t s) (predictions-machine (count v) t s is.machine is.indicator)
    (behind-indicator (count v) t is.indicator) in
    let left = banks-left ds n tick now t s f v ordered are (omega arith) few first is order (omega arith) opened in
    (left, subst (λ (l : List ℕ). All (λ b. b ≤ now + 255) l) left (made-soon 255 now ds _ f.bus are is.oldest.near (omega arith)))
