-- The names that proofs of this crate use, passed on from one place. Declares nothing.
pub use Rattle.std.specs.Prelude.{Bool, if◌then◌else◌, nat_eq, ◌||◌, is_some, map, IfSome, All, slice_index, slice_set, nat_lt, Result, Ok, Err, IsErr, nat_le, option_map, not, is_none, min}
pub use Rattle.std.proofs.Common.{◌≡◌, ◌≢◌, ℕ, zero, suc, ◌+◌, true, false, List, [], ◌∷◌, ◌++◌, length, Option, None, Some, refl, sym, ◌∙◌, ap, arith, subst, ◌<◌, ◌≤◌, inl, inr, drop, get_or, get_or-set_other, take, ◌⊎◌, ◌-◌, ◌^◌, ◌%◌, set, length-set, get_or-take, length-take-le, max, length-append, append_assoc, ◌*◌, rules}
pub use Rattle.std.proofs.lemmas.List.{length-map, get_or-set_same, nil_from_length, same_lists, append-nil}
pub use Rattle.std.proofs.lemmas.Bool.Decides.{nat_tests}
pub use Rattle.std.proofs.lemmas.Bool.{cases_eq, cases_Bool, and_parts, not-true, cond_both}
pub use Rattle.std.proofs.lemmas.List.Elements.{All-head, All-tail, All-weaker, All-nil}
pub use Rattle.st_bits.specs.Storage.{words_of_storage, words_of_storage_is}
pub use Rattle.st_banks.specs.declared.answers.LastAnswers.{LastAnswers}
pub use Rattle.st_state.specs.Machine.{Machine, IsMachine, word, state_with_store}
pub use Rattle.st_exec.specs.Step.{rests, interrupt, address}
unfoldable pub use Rattle.st_exec.specs.Step.{step}
pub use Rattle.st_rows.specs.Rows.{opening_issue, reads_of_entry, tick_a, tick_p, wanted_from, bus_a, operands}
unfoldable pub use Rattle.st_rows.specs.Rows.{row_of_entry, issue_after_entry}
pub use Rattle.st_rows.specs.declared.issue.IssueState.{IssueState}
pub use Rattle.st_report.specs.Line.{ic_line, done_line, ticks_line}
pub use Rattle.st_run.specs.Moments.{Moment, next_state, has_card, has_waited, Standing, moment_at_start, standing_at, next_scene}
unfoldable pub use Rattle.st_run.specs.Moments.{ends_segment, next_issue, next_row, next_moment}
pub use Rattle.st_run.proofs.DoneLemmas.{settled-done}
pub use Rattle.st_plain.specs.Looking.{seen_ahead, known_at, side_at, first_late}
unfoldable pub use Rattle.st_plain.specs.Looking.{level_wait, reads_up_to}
pub use Rattle.st_rows.specs.declared.uses.Use.{Use}
pub use Rattle.st_account.specs.declared.account.Account.{Account}
pub use Rattle.st_account.specs.declared.last.Last.{Last}
pub use Rattle.st_lines.specs.declared.lines.Why.{Why}
pub use Rattle.st_lines.specs.declared.waits.RowTelling.{RowTelling}
pub use Rattle.st_lines.specs.declared.writing.Border.{Border}
pub use Rattle.st_lines.specs.declared.origins.Origin.{Origin}
pub use Rattle.st_lines.specs.declared.origins.Origins.{Origins}
pub use Rattle.st_lines.specs.Origins.{card_by, is_kept, origin_by}
unfoldable pub use Rattle.st_lines.specs.Origins.{origin_at}
pub use Rattle.st_lines.specs.declared.lines.Why.TheVariants.{Run}
pub use Rattle.st_lines.specs.Lines.{start_line}
pub use Rattle.st_account.specs.Rounds.{Crosses, IsNext, IsBorderOf, IsStepped, Completes, IsAtStart, HasTakenEvents}
pub use Rattle.st_account.specs.Standing.{Position, IsBehindMoment, predicting, IsLast, IsStanding, HasReads, IsOpen, CanPass, still_by, IsWaiting, IsWithinRun, IsAt, position, next_position, charges_kept, AddsKeptWaits}
unfoldable pub use Rattle.st_account.specs.Standing.{kept_lines, kept_stalled}
pub use Rattle.st_lines.proofs.LineLemmas.{end-same, same_lines, first_cut, second_cut, no_lines}
pub use Rattle.st_lines.specs.BorderLines.{segment_end_lines, taken_by, en_lines, prints_lines, machine_lines, whole_state_lines}
unfoldable pub use Rattle.st_lines.specs.BorderLines.{words_lines, marks_lines, state_lines}
pub use Rattle.st_account.specs.LedgerTables.{why_after, dropped_at_end, tallied_of, dropped_of}
unfoldable pub use Rattle.st_account.specs.LedgerTables.{row_at, tallied_from, dropped_from}
pub use Rattle.st_account.specs.Text.{begins_segment, run_ends, segment_ends, state_lines_at, words_behind, why_by, segment_after, words_before, done_at, totals_lines, wait_totals_lines, with_totals}
unfoldable pub use Rattle.st_account.specs.Text.{segment_end_at, begun_at, why, segment_lines, last_lines, formed_at, uses_at, lines_of_entry, lines_from, stalled_from, ledger}
pub use Rattle.st_prep.specs.Plan.{plan}
pub use Rattle.st_prep.specs.declared.entries.Prepared.{Prepared}
pub use Rattle.st_exec.specs.Completion.{state_after_execution, prediction, is_mispredicted, state_after_completion}
unfoldable pub use Rattle.st_exec.specs.Completion.{predicted_state}
pub use Rattle.st_rows.specs.Notes.{log_after_reads, IsLogged, notes_of_reads, answers_left, AreEarly}
pub use Rattle.st_rows.specs.Ranges.{AreDelaysUpTo, IsEntryInTime, IsTight}
pub use Rattle.st_rows.specs.declared.log.Made.{Made}
pub use Rattle.st_rows.specs.declared.issue.EntryTicks.{EntryTicks}
pub use Rattle.st_segment.specs.Entries.{entry}
pub use Rattle.st_ledger.specs.Charges.{parts_of_row}
unfoldable pub use Rattle.st_ledger.specs.Charges.{charges_behind, ticks_for, all_ticks}
pub use Rattle.st_ledger.specs.Ledger.{entries_of, entries_from}
unfoldable pub use Rattle.st_ledger.specs.Ledger.{charges_at, all_charges}
pub use Rattle.st_plain.specs.Uses.{formed_uses, uses_of_entry}
pub use Rattle.st_lines.specs.EntryLines.{done_entry_lines, charges_of_entry}
pub use Rattle.st_lines.specs.declared.facts.EntryDone.{EntryDone}
pub use Rattle.st_ledger.specs.declared.because.StallCause.{StallCause}
pub use Rattle.st_ledger.specs.Reasons.{because}
pub use Rattle.st_asm.specs.Assembly.{Assembly, assembly_parts}
pub use Rattle.st_account.specs.FirstCards.{beginning}
unfoldable pub use Rattle.st_account.specs.FirstCards.{first_card, origin_of}
pub use Rattle.st_rows.specs.BusTimes.{accept_at, Read}
pub use Rattle.st_rows.specs.Asked.{formed_asked, prepared_asked, side_count}
unfoldable pub use Rattle.st_rows.specs.Asked.{bus_after_reads, made_before, fetches_asked, words_asked}
pub use Rattle.st_rows.proofs.LogLaws.{logged-noted, undone_is_made_before, few_are_undone}
pub use Rattle.st_rows.proofs.Parts.{two-parts, free-formed, issue-done, at-prepared}
pub use Rattle.st_rows.proofs.Served.{served-asked, served-formed, made-bounds, served-append, few-words, few-side, few-operands, few-following}
pub use Rattle.st_rows.proofs.Tight.{later-r, later-c, tight-after}
pub use Rattle.st_rows.specs.declared.bus.Bus.{Bus}
pub use Rattle.st_rows.specs.declared.entry.Entry.{Entry}
pub use Rattle.st_rows.specs.declared.past.Past.{Past}
pub use Rattle.st_segment.specs.Ahead.{Ahead}
unfoldable pub use Rattle.st_segment.specs.Ahead.{ahead, prepared_before, reads_before}
pub use Rattle.st_run.specs.Run.{Scene, with_due_signals, if_due, with_device, uneventful, with_order, with_signals_while, PlainEvent, Transition, scene_after_step}
unfoldable pub use Rattle.st_run.specs.Run.{with_due_orders, with_order_at_rest, with_wait, interlude}
pub use Rattle.st_io.specs.Output.{OutputState}
pub use Rattle.st_io.specs.declared.Failed.{Failed}
pub use Rattle.st_io.specs.Lines.{WritesLines}
pub use Rattle.st_io.proofs.Progress.{lines_then, lines_cut, LinesSoFar, lines_none, lines_more, lines_failed, lines_last}
pub use Rattle.st_ledger.specs.declared.charges.Stage.{Stage}
pub use Rattle.st_ledger.specs.declared.charges.Stage.TheVariants.{Instruction, Index, Operand, Restart, Address, Preparing, Executing}
pub use Rattle.st_ledger.specs.Sums.{is_parted, waited_at, wait_sums_by, row_stalled, AreWaitsWithin, AreSharesWithin, share_at}
pub use Rattle.st_ledger.specs.declared.sums.WaitTotals.{WaitTotals}
pub use Rattle.st_ledger.specs.declared.waits.Stall.{Stall}
pub use Rattle.st_ledger.specs.declared.waits.Stall.TheVariants.{Turn, Bank, Storage}
pub use Rattle.st_ledger.specs.declared.totals.Totals.{Totals}
pub use Rattle.st_ledger.specs.Totals.{sum_at, stages, sums_by, sum_lines, AreWithin}
pub use Rattle.st_account.specs.LedgerSums.{end_lines}
unfoldable pub use Rattle.st_account.specs.LedgerSums.{end_from, ledger_totals, ledger_sums}
pub use Rattle.st_tally.specs.TallyLines.{table_lines}
pub use Rattle.st_card.specs.declared.control_cards.Signal.{Signal}
pub use Rattle.st_state.specs.Orders.{is_due, next_device}
pub use Rattle.st_exec.specs.Ahead.{IsNotAmong}
pub use Rattle.st_run.specs.Reached.{IsCard}
pub use Rattle.st_lines.specs.Changes.{IsOutsideArea, IsUntouched}
pub use Rattle.st_bits.specs.declared.limits.TheConstants.{WORDS, MOST_INSTRUCTIONS}
pub use Rattle.st_run.specs.ExternalEvents.{PendingEvents, scene_at, ArePrinted, signal_due}
pub use Rattle.st_account.specs.Settling.{at_hand}
unfoldable pub use Rattle.st_account.specs.Settling.{words_printed}
pub use Rattle.st_fetch.proofs.Windows.{length-window, get_or-window}
pub use Rattle.st_segment.proofs.EntryRanges.{entry-ranges}
pub use Rattle.st_account.specs.Passing.{lines_to_next, lines_to_end, line_of_start}
unfoldable pub use Rattle.st_account.specs.Passing.{lines_until, passed_lines, ended_lines}
pub use Rattle.st_tally.specs.Tally.{TalliedRow, IsTally}
unfoldable pub use Rattle.st_tally.specs.Tally.{stage_ticks, wait_ticks}
pub use Rattle.st_run.proofs.Bounds.{HasTime, IsMoment, start-is, next-is, next-time}
pub use Rattle.st_ledger.specs.Words.{IsReadInTime}
pub use Rattle.st_tally.specs.Slots.{AreTablesWithin, IsInOrder}
pub use Rattle.st_tally.specs.declared.tables.Tables.{Tables}
pub use Rattle.st_account.specs.Tallying.{CountAs, done_kept, IsOrdered, IsTallyReady, AddsKeptRow, IsEmptyTally, TalliesRow}
unfoldable pub use Rattle.st_account.specs.Tallying.{kept_rows}
pub use Rattle.st_rows.proofs.Within.{delays-are}
