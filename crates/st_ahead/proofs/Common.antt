-- The names that proofs of this crate use, passed on from one place. Declares nothing.
pub use Rattle.std.specs.Prelude.{IfSome, IsSome, take, drop, All, ◌==◌, if◌then◌else◌, get_or, nat_le, is_none, nat_eq, nat_lt, is_some, replicate, option_map, map, slice_get}
pub use Rattle.std.proofs.Common.{◌≡◌, ℕ, ◌+◌, ◌<◌, ◌≤◌, List, [], ◌∷◌, length, Option, None, Some, refl, sym, subst, ◌∙◌, ap, arith, zero, suc, ◌*◌, Bool, true, false, not, ◌&&◌, ◌||◌, ◌++◌, append_assoc, inl, inr, ap₂, max, length-append, ◌-◌, length-drop, ◌^◌, ◌⊎◌, ◌≢◌, rules}
pub use Rattle.std.proofs.lemmas.List.{length-take, length-set, ext_get_or, get_or-take, get_or-drop, get_or-set_other, append-nil, length-map, length-replicate}
pub use Rattle.std.proofs.lemmas.List.Elements.{All-nil, All-head, All-tail, All-weaker, All-append, All-cons, All-replicate}
pub use Rattle.std.proofs.lemmas.Bool.{and_parts, eqb-true, ne_eqb, leb-true, leb-false, cond-false, or_parts, lt-ltb, le-ltb, cases_eq, eq-eqb, not-true, true_from_ne_false, cond-true, cond_both, and_left, ltb-false, cases_Bool}
pub use Rattle.std.proofs.lemmas.Bool.Decides.{nat_tests}
pub use Rattle.st_state.specs.Machine.{Machine, IsMachine, HasArea, word, state_with_store}
pub use Rattle.st_state.specs.Interrupts.{state_with_signal, pending}
pub use Rattle.st_prep.specs.BesideOrders.{AreAlikeBesideOrders}
pub use Rattle.st_prep.specs.declared.entries.Place.{Place}
pub use Rattle.st_ahead.specs.Overlap.{Overlap, Ticked, has_ended, with_counter, Ready, interrupt_due, machine_between_ticks, Phase, Ended, Stopped, is_owed, last_tick_made, machine_at_start}
unfoldable pub use Rattle.st_ahead.specs.Overlap.{state_ahead, oldest_row, banks_at_its_end, levels_of}
pub use Rattle.st_ahead.specs.Calls.{read_in_by, MayServe, run_ended, is_done, machine_after_pass, settled_by, answer_by, row_done, MaySettle, may_serve, may_settle, MaySignal, printed_by, signalled_by}
unfoldable pub use Rattle.st_ahead.specs.Calls.{machine_after_segment, drop_count, machine_after_completion, machine_after_tick, machine_after_settling, answer}
unfoldable pub use Rattle.st_prep.specs.Fetch.{index_words, place_of}
pub use Rattle.st_exec.specs.Transfer.{read_in, words_from}
unfoldable pub use Rattle.st_exec.specs.Transfer.{all_stored}
pub use Rattle.st_rows.specs.Rows.{opening_issue, wanted_from, reads_of_entry, done_before, operands, bus_a}
unfoldable pub use Rattle.st_rows.specs.Rows.{row_of_entry, issue_after_entry, preparation_tick, address_tick, tick_a, tick_p, tick_c, words_tick}
pub use Rattle.st_rows.specs.declared.issue.IssueState.{IssueState}
pub use Rattle.st_ahead.specs.Forecast.{LookaheadView, IsOpened, IsLookahead, IsOutlook, IsNextIf, is_open, count, asked_ahead, reads_ahead}
pub use Rattle.st_ahead.specs.Inside.{answers_before, overlap_of, IsBetween, IsInside, phase_of}
pub use Rattle.st_prep.specs.Plan.{plan, needs}
unfoldable pub use Rattle.st_prep.specs.Plan.{decode_context}
pub use Rattle.st_exec.specs.Completion.{state_after_execution, prediction, is_mispredicted}
unfoldable pub use Rattle.st_exec.specs.Completion.{predicted_state}
pub use Rattle.st_rows.specs.BusTimes.{Read}
pub use Rattle.st_rows.specs.Notes.{IsLogged, log_after_reads, notes_of_reads, AreEarly}
unfoldable pub use Rattle.st_rows.specs.Notes.{answers_left}
pub use Rattle.st_rows.specs.Ranges.{AreDelaysUpTo, IsEntryInTime, most_ticks_of_entry, IsNear, IsTight, ArePastWithin}
pub use Rattle.st_rows.specs.declared.entry.Entry.{Entry}
pub use Rattle.st_rows.specs.declared.fetching.Fetching.{Fetching}
pub use Rattle.st_rows.specs.declared.bus.Bus.{Bus}
pub use Rattle.st_rows.specs.declared.log.Made.{Made}
pub use Rattle.st_rows.proofs.LogLaws.{logs_go_on, logged-noted, undone_is_made_before, few_are_undone}
pub use Rattle.st_rows.proofs.MadeLemmas.{free-served, before-cases, made-more}
pub use Rattle.st_rows.proofs.Served.{served-asked, served-append, made-bounds, few-words, few-side, few-operands, few-following, served-formed}
pub use Rattle.st_rows.proofs.Tight.{tight-after, later-r, later-c}
pub use Rattle.st_ring.specs.declared.level.Level.{Level}
pub use Rattle.st_segment.specs.Ahead.{Ahead, next_ahead}
unfoldable pub use Rattle.st_segment.specs.Ahead.{ahead, issue_behind, prepared_before, reads_before}
unfoldable pub use Rattle.st_segment.specs.Entries.{entry}
pub use Rattle.st_segment.specs.Predictions.{table_behind}
unfoldable pub use Rattle.st_segment.specs.Predictions.{predictions, split_words}
pub use Rattle.st_segment.proofs.EntryRanges.{entry-ranges}
pub use Rattle.st_segment.proofs.PredictionLemmas.{prediction-machine, behind-none, behind-indicator}
pub use Rattle.st_ring.specs.Levels.{LevelsView, AreAhead, oldest_issue, due_of, AreNotDone, IsCompleted, is_oldest_due, IsLevel}
unfoldable pub use Rattle.st_ring.specs.Levels.{AreLevels, AreFull}
pub use Rattle.st_ring.specs.declared.plans.PlannedRow.{PlannedRow}
pub use Rattle.st_ring.proofs.LevelLemmas.{levels-issue, levels-beside, length-ahead}
pub use Rattle.st_ring.proofs.OrderLemmas.{after-c, done-order, due-row}
pub use Rattle.st_next.specs.Progress.{IsNext, Rests, reads_so_far, IsPlanned, IsKnown, preparation_without_side, wanted_next}
pub use Rattle.st_next.specs.declared.fetch_unit.FetchUnit.{FetchUnit}
pub use Rattle.st_rows.specs.Asked.{side_asked, formed_asked, side_count, prepared_asked, data_of, made_before}
unfoldable pub use Rattle.st_rows.specs.Asked.{fetches_asked, words_asked, bus_after_reads}
pub use Rattle.st_rows.specs.Entries.{no_runs}
pub use Rattle.st_rows.specs.declared.past.Past.{Past}
unfoldable pub use Rattle.st_segment.specs.Alone.{RunAhead}
pub use Rattle.st_next.specs.Known.{IsStateBefore}
pub use Rattle.st_next.specs.Words.{asked_so_far, words_so_far, IsStart, AreFirstWords}
pub use Rattle.st_ahead.specs.Going.{IsGoing, BecomesLevel, HasGone, WaitsFor, IsDueAt, GoesUpTo, Reaches}
pub use Rattle.st_rows.specs.Words.{fills}
unfoldable pub use Rattle.st_rows.specs.Words.{fetch_words, fetch_word}
pub use Rattle.st_banks.specs.declared.answers.LastAnswers.{LastAnswers}
pub use Rattle.st_banks.specs.Bank.{idle_banks}
pub use Rattle.st_rows.proofs.Parts.{a-p, asked-parts, two-parts, at-prepared, free-formed}
pub use Rattle.st_next.specs.Going.{IsIssueInTime, GoesOnTo, IsReadFurther}
pub use Rattle.st_next.proofs.Resting.{address-late, rest-left}
pub use Rattle.st_next.proofs.Starting.{new-reads, new-next, new-rests}
pub use Rattle.st_ring.proofs.RestLemmas.{ahead-rests}
pub use Rattle.st_exec.specs.Step.{interrupt, rests}
pub use Rattle.st_ahead.specs.RunTo.{may_come_from_outside, IsPassed, ArePassed, is_quiet, order_is_due, StopsAt}
unfoldable pub use Rattle.st_ahead.specs.RunTo.{after_ticks}
pub use Rattle.st_ahead.specs.declared.events.Settled.TheVariants.{Goes, Interrupt, Mispredicted, Waits}
pub use Rattle.st_rows.specs.declared.entry.WordRun.{WordRun}
unfoldable pub use Rattle.st_rows.specs.Uses.{reads_of, uses, wishes, behind}
pub use Rattle.st_ahead.specs.RowsDone.{Queue, queue_with, ticks_passed}
unfoldable pub use Rattle.st_ahead.specs.RowsDone.{rows_in_ticks}
pub use Rattle.st_ahead.specs.declared.events.Row.{Row}
pub use Rattle.st_prep.specs.declared.entries.Prepared.{Prepared}
pub use Rattle.st_ring.specs.declared.levels.Completed.{Completed}
pub use Rattle.st_ahead.specs.Running.{IsAwake, GoesFrom, HasPassed, HasStopped, HasRunTo}
pub use Rattle.st_banks.specs.declared.answers.TheConstants.{BANKS}
pub use Rattle.st_ahead.specs.Shown.{IsLevelOf, AreLevelsOf, word_before_change, level_shown}
unfoldable pub use Rattle.st_ahead.specs.Shown.{lent_index_words, view_at_tick}
pub use Rattle.st_ahead.specs.Ticked.{IsTicked, IsDoneAt}
pub use Rattle.st_ring.proofs.Laws.{levels_are_the_entries_ahead}
pub use Rattle.st_segment.proofs.Laws.{steps_are_predictions, entries_are_in_range, predictions_leave_the_rest}
pub use Rattle.st_exec.proofs.Laws.{entries_count_as_one, orders_are_passed_over}
pub use Rattle.st_rows.proofs.Within.{delays-are}
