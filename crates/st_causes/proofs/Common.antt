-- The names that proofs of this crate use, passed on from one place. Declares nothing.
pub use Rattle.std.specs.Prelude.{zero, suc, nat_lt, All, length, reverse, Option, None, get_or, take, slice_index_or, Bool, Some, false, nat_eq, ◌||◌, if◌then◌else◌, slice_index, map, drop, nat_le, ◌&&◌}
pub use Rattle.std.proofs.Common.{◌≡◌, ℕ, ◌+◌, List, [], ◌∷◌, ◌++◌, inl, inr, refl, ◌∙◌, ap, subst, ◌-◌, ◌≤◌, ◌<◌, max, sym, arith, get_or-take, append_assoc, true, ◌≢◌, ◌/◌, ◌⊎◌}
pub use Rattle.std.proofs.lemmas.Bool.{cases_Bool, ltb-true, cond_both, and_parts, eqb-true, leb-true, lt-ltb, ltb-false}
pub use Rattle.std.proofs.lemmas.List.Elements.{All-nil, All-cons, All-head, All-tail, All-from_get_or, filter-append}
pub use Rattle.st_banks.specs.declared.answers.LastAnswers.{LastAnswers}
pub use Rattle.st_prep.specs.Plan.{plan}
pub use Rattle.st_exec.specs.Step.{rests, interrupt}
pub use Rattle.st_rows.specs.Rows.{opening_issue, reads_of_entry, completion_of, done_before, operands}
unfoldable pub use Rattle.st_rows.specs.Rows.{row_of_entry, issue_after_entry, tick_p, tick_c, preparation_tick, tick_a, address_tick}
pub use Rattle.st_segment.specs.Ahead.{reads_to_end, Ahead}
unfoldable pub use Rattle.st_segment.specs.Ahead.{ahead}
unfoldable pub use Rattle.st_segment.specs.Entries.{entry}
pub use Rattle.st_run.specs.Moments.{Moment, Standing, next_state, ends_segment, standing_at, entry_of_moment, moment_at_start, has_waited}
unfoldable pub use Rattle.st_run.specs.Moments.{next_issue, next_row, next_moment}
pub use Rattle.st_plain.specs.Looking.{seen_ahead}
unfoldable pub use Rattle.st_plain.specs.Looking.{side_at, first_late}
pub use Rattle.st_rows.specs.declared.uses.Use.{Use}
pub use Rattle.st_ledger.specs.Served.{served, reads_told, AreBrought, IsWrittenBy}
unfoldable pub use Rattle.st_ledger.specs.Served.{AreBankedBehind, busy_until}
pub use Rattle.st_ledger.proofs.WaitLaws.{reads_told_are_those_of_the_bus, held_words_are_brought, forwarded_words_are_written, waits_are_true, waits_cover_their_charge, waits_end_before_their_row, waits_add_up_to_their_stage}
pub use Rattle.st_account.specs.Text.{words_before, segment_after, segment_end_at, why, end_lines_at, words_behind, state_lines_at, with_totals, totals_lines, wait_totals_lines, begun_at, segment_start_lines, begins_segment}
unfoldable pub use Rattle.st_account.specs.Text.{uses_at, segment_lines, lines_of_entry, lines_from, ledger, formed_at, stalled_from, last_lines}
pub use Rattle.st_causes.specs.Runs.{ToldRow, line_of_row, because_at, facts_tallied, facts_told}
unfoldable pub use Rattle.st_causes.specs.Runs.{told_from, lines_of_row, lines_of_rows}
pub use Rattle.st_state.specs.Machine.{Machine, word}
pub use Rattle.st_rows.specs.declared.entry.Entry.{Entry}
pub use Rattle.st_rows.specs.declared.issue.IssueState.{IssueState}
pub use Rattle.st_lines.specs.declared.lines.Why.{Why}
pub use Rattle.st_lines.specs.declared.origins.Origin.{Origin}
pub use Rattle.st_tally.specs.Tally.{card_of, card_by_origin, TalliedRow}
pub use Rattle.st_account.specs.LedgerTables.{why_after}
unfoldable pub use Rattle.st_account.specs.LedgerTables.{row_at, tallied_from}
pub use Rattle.st_prep.specs.declared.entries.IndexChange.{IndexChange}
pub use Rattle.st_prep.specs.declared.entries.Prepared.{Prepared}
unfoldable pub use Rattle.st_io.specs.Lines.{lines_for}
pub use Rattle.st_run.specs.Run.{Scene}
pub use Rattle.st_plain.specs.declared.known.Code.{Code}
pub use Rattle.st_plain.specs.declared.known.Known.{Known}
pub use Rattle.st_ledger.specs.Lines.{row_stage_line, charge_line}
pub use Rattle.st_ledger.specs.declared.charges.Charge.{Charge}
pub use Rattle.st_ledger.specs.Waits.{charge_waits}
pub use Rattle.st_ledger.specs.declared.because.StallCause.{StallCause}
pub use Rattle.st_ledger.specs.declared.because.StallCause.TheVariants.{Start, Prefetch, Earlier}
pub use Rattle.st_ledger.specs.declared.waits.Wait.{Wait}
pub use Rattle.st_lines.specs.Lines.{start_line}
unfoldable pub use Rattle.st_lines.specs.Lines.{delays_line, tens_of}
pub use Rattle.st_lines.specs.EntryLines.{charges_of_entry, known_lines, late_entry_lines, spent_lines}
unfoldable pub use Rattle.st_lines.specs.EntryLines.{alone_lines, suppressed_lines, run_lines, index_lines, emitted_lines, code_lines, facts_lines, missed_lines, level_lines, done_entry_lines}
pub use Rattle.st_lines.specs.UseLines.{is_told}
unfoldable pub use Rattle.st_lines.specs.UseLines.{use_lines}
pub use Rattle.st_lines.specs.WaitLines.{because_line}
unfoldable pub use Rattle.st_lines.specs.WaitLines.{wait_lines, charged_lines, because_lines, wait_sum_lines}
pub use Rattle.st_lines.specs.BorderLines.{taken_by, whole_state_lines, machine_lines}
unfoldable pub use Rattle.st_lines.specs.BorderLines.{en_lines, prints_lines, nonzero_word_lines, word_change_lines, words_lines, marks_lines, state_lines, drop_lines, begun_entry_lines, segment_end_lines}
pub use Rattle.st_lines.specs.declared.facts.EntryDone.{EntryDone}
pub use Rattle.st_lines.specs.declared.lines.Alone.{Alone}
pub use Rattle.st_account.specs.LedgerSums.{end_lines}
unfoldable pub use Rattle.st_account.specs.LedgerSums.{end_from, ledger_totals}
unfoldable pub use Rattle.st_causes.specs.Heads.{head_of, is_word, is_segment_line, last_segment, is_spent_line}
pub use Rattle.st_causes.specs.Laws.{IsFromRow, IsWithoutLines}
pub use Rattle.st_ledger.proofs.Runs.{entries-none, entries-step, ticks_for-append}
pub use Rattle.st_ledger.specs.Charges.{charges}
unfoldable pub use Rattle.st_ledger.specs.Charges.{ticks_for, all_ticks}
pub use Rattle.st_ledger.specs.Ledger.{entries_from, entries_of}
unfoldable pub use Rattle.st_ledger.specs.Ledger.{charges_at, all_charges}
pub use Rattle.st_ledger.specs.declared.waits.Stall.TheVariants.{Turn, Bank, Storage}
pub use Rattle.st_ledger.specs.Causes.{IsTrueOf, FallTo, is_cause}
unfoldable pub use Rattle.st_ledger.specs.Causes.{has_cause}
pub use Rattle.st_ledger.proofs.Laws.{charges_follow}
