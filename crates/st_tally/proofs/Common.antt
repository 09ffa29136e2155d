-- The names that proofs of this crate use, passed on from one place. Declares nothing.
pub use Rattle.std.specs.Prelude.{nat_eq, nat_lt, if◌then◌else◌, not, length, Option, None, Some, option_map, unwrap_or, get_or, Result, Ok, Err, IsErr, max, min, All}
pub use Rattle.std.specs.List.{filter, sum_by}
pub use Rattle.std.proofs.Common.{◌≡◌, ℕ, ◌+◌, ◌-◌, ◌<◌, ◌≤◌, true, false, List, [], ◌∷◌, ◌++◌, inl, inr, refl, sym, ◌∙◌, ap, subst, arith, ◌≢◌, Bool, zero, suc, ◌^◌}
pub use Rattle.std.proofs.lemmas.Bool.{cases_Bool, ltb-true, ltb-false, eqb-true, eqb-false, le-ltb, lt-ltb, true≢false, cond_both}
pub use Rattle.std.proofs.lemmas.List.{length_push, append-nil, get_or-set_same, get_or-set_other, nil_from_length}
pub use Rattle.std.proofs.lemmas.List.Sums.{sum_by_push, sum_by-cons}
pub use Rattle.std.proofs.lemmas.List.Elements.{filter-append, All-head, All-tail}
pub use Rattle.std.proofs.lemmas.Bool.Decides.{nat_tests, eqb_tells}
pub use Rattle.st_rows.specs.declared.uses.Use.{Use}
pub use Rattle.st_ledger.specs.Charges.{is_stage}
unfoldable pub use Rattle.st_ledger.specs.Charges.{ticks_for, charges_behind, all_ticks}
pub use Rattle.st_ledger.specs.declared.charges.Stage.{Stage}
pub use Rattle.st_ledger.specs.Sums.{is_parted, waited_at, wait_sums_by, AreWaitsWithin, share_at, is_stall, AreSharesWithin}
unfoldable pub use Rattle.st_ledger.specs.Sums.{row_stalled, all_stalled, stalled_for}
pub use Rattle.st_ledger.specs.declared.because.StallCause.{StallCause}
pub use Rattle.st_ledger.specs.declared.because.StallCause.TheVariants.{Start, Earlier}
pub use Rattle.st_ledger.specs.declared.waits.Stall.{Stall}
pub use Rattle.st_lines.specs.EntryLines.{charges_of_entry}
pub use Rattle.st_lines.specs.declared.facts.EntryDone.{EntryDone}
pub use Rattle.st_tally.specs.Headings.{heading_of, is_heading, headings, heading_number}
unfoldable pub use Rattle.st_tally.specs.Headings.{heading_at}
pub use Rattle.st_tally.specs.Tally.{TalliedRow, card_by_origin, card_of, reason_of, lost_by, late_by, late_of, has_level_wait, card_sum, reason_sum, IsCardSum, IsReasonSum, IsTally, no_card_sum, no_reason_sum}
unfoldable pub use Rattle.st_tally.specs.Tally.{rows_of_card, rows_elsewhere, rows_for, stage_ticks, wait_ticks, lost_ticks, late_ticks, mispredicted_rows, level_rows, level_ticks}
pub use Rattle.st_tally.specs.declared.headings.Heading.{Heading}
pub use Rattle.st_tally.specs.declared.tables.CardSum.{CardSum}
pub use Rattle.st_tally.specs.declared.tables.Tables.{Tables}
pub use Rattle.st_ledger.proofs.ChargeSums.{lt-cases}
pub use Rattle.st_tally.specs.Slots.{AddsCard, OnlyExecutes, slot_lines, reason_sum_line, tables_lines, IsReasonSumWithin, IsInOrder, with_entry, with_reason, slots_ticks, slots_waited, IsCardSumWithin, AreTablesWithin, AreTablesOfNone, CanAddTotals, CanAddShares, CanAddWaits, both_totals, both_waits, both_shares}
pub use Rattle.st_ledger.specs.Totals.{sum_at, stages, sums_by, sum_lines, AreWithin}
pub use Rattle.st_ledger.specs.declared.charges.StagePart.{StagePart}
pub use Rattle.st_ledger.specs.declared.charges.Charge.{Charge}
pub use Rattle.st_ledger.specs.declared.charges.Stage.TheVariants.{Restart, Instruction, Address, Index, Preparing, Operand, Executing}
pub use Rattle.st_ledger.specs.declared.totals.Totals.{Totals}
pub use Rattle.st_ledger.proofs.Added.{charge-added, sums-same, reach-later, reach-end}
pub use Rattle.st_io.proofs.Progress.{LinesSoFar, lines_none, lines_more, lines_failed, lines_then, lines_cut, lines_for_next, lines_for_whole, wrote_nothing}
pub use Rattle.st_ledger.specs.declared.waits.Stall.TheVariants.{Turn, Bank, Storage}
pub use Rattle.st_tally.specs.TallyLines.{card_line, reason_line_of, count_lines, missed_count_line, level_count_line, drop_count_line}
unfoldable pub use Rattle.st_tally.specs.TallyLines.{card_lines_by, card_lines, lines_by_heading, table_lines}
pub use Rattle.st_tally.specs.declared.tables.ReasonSum.{ReasonSum}
pub use Rattle.st_tally.specs.declared.headings.Heading.TheVariants.{Run, Interrupt, Missed, Card, Serial, Store, Level, Forwarding, Bus, Prefetch, Order}
unfoldable pub use Rattle.st_tally.specs.Laws.{sum_below}
pub use Rattle.st_ledger.specs.Words.{AreWordsInTime}
pub use Rattle.st_ledger.specs.declared.sums.WaitTotals.{WaitTotals}
pub use Rattle.st_ledger.specs.declared.sums.Shares.{Shares}
pub use Rattle.st_lines.proofs.LineLemmas.{first_cut, second_cut, same_lines, three_then, three_cut}
