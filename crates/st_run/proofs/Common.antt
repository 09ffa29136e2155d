-- The names that proofs of this crate use, passed on from one place. Declares nothing.
pub use Rattle.std.specs.Prelude.{All, nat_lt, IfSome, is_none, is_some, if◌then◌else◌, option_map, slice_get, map, reverse, IsSome, nat_le, MatchOption, not, Result, Ok, Err, IfOk, slice_index, replicate}
pub use Rattle.std.proofs.Common.{◌≡◌, ℕ, zero, suc, ◌+◌, ◌*◌, ◌≤◌, List, [], ◌∷◌, length, Option, None, sym, subst, arith, ◌≢◌, ◌<◌, Bool, true, false, ◌||◌, Some, refl, ◌∙◌, ap, ◌⊎◌, ◌++◌, inl, inr, append_assoc, length-append, ◌-◌, ◌^◌, ◌&&◌, take, drop, get_or, length-take, append-nil, rules, ◌==◌}
pub use Rattle.std.proofs.Math.Nat.{mul-add}
pub use Rattle.std.proofs.lemmas.List.Elements.{All-replicate, All-weaker, All-nil, All-cons, All-append, All-tail, All-head, All-from_get_or}
pub use Rattle.std.specs.List.{flat_map, AllPass, AllZip}
pub use Rattle.std.proofs.lemmas.Bool.{cases_Bool, ltb-true, ltb-false, lt-ltb, le-ltb, false_from_ne_true, and_parts, leb-true, or_parts, eqb-true}
pub use Rattle.std.specs.Option.{option_or, option_to_list, option_map_or}
pub use Rattle.std.proofs.lemmas.Bool.Decides.{nat_tests}
pub use Rattle.std.proofs.lemmas.List.{reverse-append, map-append, get_or_append_left, get_or-append_right, get_or-take, get_or-drop, take-append-drop, drop-drop, length-map}
pub use Rattle.std.proofs.lemmas.Simd.{map-map}
pub use Rattle.st_state.specs.Machine.{Machine, IsMachine, state_with_store, HasArea, word}
pub use Rattle.st_prep.proofs.Choices.{of_choice}
pub use Rattle.st_exec.specs.Completion.{prediction, state_after_execution, is_mispredicted}
pub use Rattle.st_run.specs.Run.{Scene, state_next, scenes, with_due_signals, with_signals_while, if_due, with_device, uneventful, with_order, Ends, interrupts_by, Transition, scene_after_step, PlainEvent, and_then, with_signals_at_rest, happens, happens_from, happens_last, Executes, with_due_order}
unfoldable pub use Rattle.st_run.specs.Run.{interlude, run, with_due_orders, with_order_at_rest, with_wait}
pub use Rattle.st_banks.specs.Bank.{idle_banks}
pub use Rattle.st_rows.specs.Ranges.{AreDelaysUpTo, IsEntryInTime, IsTight}
pub use Rattle.st_rows.specs.Rows.{opening_issue}
unfoldable pub use Rattle.st_rows.specs.Rows.{row_of_entry, tick_c, issue_after_entry, address_tick, preparation_tick, tick_a, tick_p}
pub use Rattle.st_rows.specs.declared.issue.IssueState.{IssueState}
unfoldable pub use Rattle.st_segment.specs.Entries.{entry}
pub use Rattle.st_segment.specs.Ahead.{Ahead, reads_to_end, plan_of}
unfoldable pub use Rattle.st_segment.specs.Ahead.{ahead, prepared_before}
pub use Rattle.st_segment.proofs.EntryRanges.{entry-ranges}
pub use Rattle.st_run.specs.Events.{Timed, drop_of, address_ahead, Level, level_at, Shows, plain_events_of}
unfoldable pub use Rattle.st_run.specs.Events.{snapshot, with_index_words, plain_run}
pub use Rattle.st_run.specs.Scenes.{IsScene}
pub use Rattle.st_run.specs.Moments.{Moment, Standing, moment_at_start, next_scene, next_state, next_segment, standing_at, issue_after, entries_behind, entry_of_moment, has_card, has_waited, moments, entries_at_moment}
unfoldable pub use Rattle.st_run.specs.Moments.{ends_segment, next_issue, next_row, next_moment}
pub use Rattle.st_run.specs.TimedRun.{told_from, event_at, snapshot_at, last_snapshot_at, drops_if_ends, happening_at, completion, timed_behind, timed_run}
unfoldable pub use Rattle.st_run.specs.TimedRun.{timed_from, snapshots_from, events_between, until_done, last_events, ticks_before, drops}
pub use Rattle.st_refine.proofs.InTime.{opening-tight, free-before_done, all_stored-done}
pub use Rattle.st_refine.proofs.Kept.{interrupt-below}
pub use Rattle.st_exec.specs.Step.{interrupt, rests}
unfoldable pub use Rattle.st_exec.specs.Step.{address, step}
pub use Rattle.st_card.specs.declared.control_cards.Signal.{Signal}
pub use Rattle.st_rows.specs.declared.entry.Entry.{Entry}
pub use Rattle.st_ahead.specs.Overlap.{Ready, Stopped, Overlap, interrupt_due, machine_between_ticks, has_ended, Ended, closing, with_counter, machine_at_start, last_tick_made}
unfoldable pub use Rattle.st_ahead.specs.Overlap.{state_ahead, levels_of, oldest_row, banks_at_its_end}
pub use Rattle.st_ahead.specs.Calls.{run_ended, settled_by, machine_after_pass, answer_by, MayServe, banks_left, row_done, signalled_by, read_in_by, printed_by, MaySettle, MaySignal, is_done, may_serve, may_settle}
unfoldable pub use Rattle.st_ahead.specs.Calls.{machine_after_segment, answer, machine_after_completion, machine_after_settling, machine_after_tick}
pub use Rattle.st_run.specs.Together.{Together, scene_of, moment_of, AreTexts, IsBehindEntry, IsBeforeEntry, IsSince, standing_of, IsMachineReady}
pub use Rattle.st_run.specs.Between.{IsChoice, IsDecidedBy}
pub use Rattle.st_run.specs.Overlapped.{IsChanged}
pub use Rattle.st_refine.specs.Reached.{IsLedOn, CanStart, MayTick, IsLed, Starts, Settles, Signals, Reads, Prints, Stops, IsCard}
pub use Rattle.st_run.specs.Leaving.{IsDecided, RunGoesOn, nothing_decided}
pub use Rattle.st_run.specs.declared.run_phase.RunPhase.{RunPhase}
pub use Rattle.st_run.specs.declared.run_phase.RunPhase.TheVariants.{Before, AtEnd, Over}
pub use Rattle.st_run.specs.declared.leaving.Decided.{Decided}
pub use Rattle.st_refine.proofs.OpeningLemmas.{ended-again}
pub use Rattle.st_run.specs.Course.{Course}
unfoldable pub use Rattle.st_run.specs.Course.{course}
pub use Rattle.st_run.specs.Order.{told_at, asked_by}
unfoldable pub use Rattle.st_run.specs.Order.{AreRising, last_completion, AreEventsInOrder, shown_ticks}
pub use Rattle.st_state.specs.Orders.{next_device, is_due}
pub use Rattle.st_state.specs.declared.devices.Order.{Order}
pub use Rattle.st_state.specs.declared.devices.Device.{Device}
pub use Rattle.st_state.specs.declared.devices.Device.TheVariants.{Reader, Printer}
pub use Rattle.st_exec.specs.Transfer.{read_in, printed_out}
unfoldable pub use Rattle.st_exec.specs.Transfer.{all_stored}
pub use Rattle.st_exec.proofs.StepLemmas.{step-done}
pub use Rattle.st_prep.specs.BesideOrders.{AreAlikeBesideOrders}
pub use Rattle.st_banks.specs.declared.answers.LastAnswers.{LastAnswers}
unfoldable pub use Rattle.st_segment.specs.Predictions.{predictions, split_words}
pub use Rattle.st_refine.proofs.SplitLemmas.{counted-machine, plan-address}
pub use Rattle.st_exch.specs.Printer.{line_of_words}
pub use Rattle.st_run.specs.ReportedEvents.{reported_plain_event, Done, TimedReportedEvent, timed_reported_event, ReportedEvent, Dropped, Interrupted, Shown, Printed}
unfoldable pub use Rattle.st_run.specs.ReportedEvents.{reported_events}
pub use Rattle.st_run.specs.ExternalEvents.{PendingEvents, ArePrinted, HasHappened, scene_at, joined_of, ends_by, signal_due}
pub use Rattle.st_run.specs.declared.between.Interlude.{Interlude}
pub use Rattle.st_prep.specs.Plan.{prepared_by}
unfoldable pub use Rattle.st_prep.specs.Plan.{plan, prepared_entry, suppressed_entry, decode_context}
pub use Rattle.st_ahead.specs.declared.events.Row.{Row}
pub use Rattle.st_run.specs.Telling.{AreInTime, IsShown, IsLeft, OutputQueue, at_once, IsTurn, IsRun, rest_by, row_told, rows_then, AreLeftOut, HasGoneFar, state_told, ahead_of, AreLevelsShown, level_of, told_as, reported_answer, Telling}
unfoldable pub use Rattle.st_run.specs.Telling.{queued_events, told_at_end, rest_of}
pub use Rattle.st_run.specs.Ticking.{AreMade, AreTicked, at_completion, last_for}
pub use Rattle.st_exec.proofs.BesideEntries.{beside-same, beside-printed, beside-no_card, beside-signalled, beside-then}
pub use Rattle.st_card.specs.Limits.{is_signal}
pub use Rattle.st_state.specs.Interrupts.{state_with_signal, pending}
pub use Rattle.st_ahead.specs.RunTo.{ArePassed, RunsTo, may_come_from_outside, IsPassed, is_quiet, order_is_due}
unfoldable pub use Rattle.st_ahead.specs.RunTo.{after_ticks}
pub use Rattle.st_ahead.specs.Shown.{IsLevelOf, word_before_change, level_shown}
unfoldable pub use Rattle.st_ahead.specs.Shown.{lent_index_words, view_at_tick}
pub use Rattle.st_prep.proofs.PlanLemmas.{plan-prepared}
pub use Rattle.st_ahead.proofs.Settling.{serve-settles, settled-waits}
pub use Rattle.st_ahead.specs.RowsDone.{Queue, queue_with, rows_in_ticks, ticks_passed}
pub use Rattle.st_ahead.proofs.NotedRows.{queue-shut, row-one, row-late, rows-first, no-rows, queue-all}
unfoldable pub use Rattle.st_prep.specs.Fetch.{index_words}
pub use Rattle.st_run.specs.declared.run_events.TimedRunEvent.{TimedRunEvent}
