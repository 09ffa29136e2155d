-- The names that proofs of this crate use, passed on from one place. Declares nothing.
pub use Rattle.std.proofs.Common.{◌≡◌, ℕ, zero, suc, ◌≤◌, Bool, true, false, List, [], ◌∷◌, ◌++◌, length, take, refl, sym, ◌∙◌, ap, arith, append_assoc, ◌+◌, ◌*◌, inl, inr, Option, None, Some, subst, ◌<◌, ◌^◌, ◌||◌, ap₂, append-nil}
pub use Rattle.std.specs.Prelude.{All, IfSome, IsSome, if◌then◌else◌, is_none, ◌&&◌, slice_get, slice_index_or, is_some, not, nat_lt, nat_le, ◌-◌, get_or, ◌==◌, max, option_map, unwrap_or, map, replicate}
pub use Rattle.std.proofs.lemmas.Bool.{cases_Bool, eqb-true, cond_both, eqb-false, lt-ltb, ltb-true, le-ltb, false_from_ne_true, or_right, ne_eqb, eq-eqb, ltb-false}
pub use Rattle.std.proofs.lemmas.List.Elements.{All-replicate, All-weaker, All-nil, All-cons, All-head, All-tail, All-append}
pub use Rattle.std.proofs.lemmas.List.{get_or-take, length-append, length-map, length-replicate}
pub use Rattle.st_fetch.specs.declared.fetched.AskedWord.{AskedWord}
pub use Rattle.st_rows.specs.Asked.{fetches_asked, data_of}
unfoldable pub use Rattle.st_rows.specs.Asked.{bus_after_reads, made_before}
pub use Rattle.st_rows.specs.BusTimes.{answer_at, Read, after_one, accept_at}
unfoldable pub use Rattle.st_rows.specs.BusTimes.{bus_after_read}
pub use Rattle.st_rows.specs.declared.bus.Bus.{Bus}
pub use Rattle.st_state.specs.Machine.{Machine, state_with_store, IsMachine, word, HasArea}
pub use Rattle.st_state.specs.Interrupts.{state_with_signal, pending, is_pending, indicator_word}
unfoldable pub use Rattle.st_state.specs.Interrupts.{first_from}
pub use Rattle.st_prep.specs.Plan.{resolved, side_word, needs, prepared_by}
unfoldable pub use Rattle.st_prep.specs.Plan.{plan, decode_context, prepared_entry, suppressed_entry}
pub use Rattle.st_exec.specs.Completion.{state_after_execution, prediction, is_mispredicted}
pub use Rattle.st_exec.specs.Step.{rests, interrupt}
unfoldable pub use Rattle.st_exec.specs.Step.{step, address}
pub use Rattle.st_exec.specs.Transfer.{read_in, printed_out}
unfoldable pub use Rattle.st_exec.specs.Transfer.{all_stored}
pub use Rattle.st_banks.specs.declared.answers.LastAnswers.{LastAnswers}
pub use Rattle.st_rows.specs.Ranges.{AreDelaysUpTo, IsEntryInTime, IsTight, IsNear}
pub use Rattle.st_rows.specs.Rows.{opening_issue, done_before, reads_of_entry, wanted_from, operands}
unfoldable pub use Rattle.st_rows.specs.Rows.{row_of_entry, address_tick, preparation_tick, tick_a, tick_p, tick_c, issue_after_entry}
pub use Rattle.st_rows.specs.declared.entry.Entry.{Entry}
pub use Rattle.st_rows.specs.declared.past.Past.{Past}
pub use Rattle.st_rows.specs.declared.issue.IssueState.{IssueState}
pub use Rattle.st_rows.proofs.Awaited.{ready-after}
pub use Rattle.st_rows.proofs.Served.{made-bounds, served-append, served-asked}
unfoldable pub use Rattle.st_segment.specs.Entries.{entry}
pub use Rattle.st_segment.proofs.EntryRanges.{entry-ranges}
pub use Rattle.st_ahead.specs.Overlap.{Ready, Ticked, Ended, Stopped, is_owed, has_ended, closing, Overlap, oldest_entry, interrupt_due, Phase, Completed, machine_at_start, with_counter, last_tick_made}
unfoldable pub use Rattle.st_ahead.specs.Overlap.{state_ahead, oldest_row, levels_of, banks_at_its_end}
pub use Rattle.st_ahead.specs.Calls.{is_done, banks_left, run_ended, machine_after_pass, settled_by, read_in_by, may_settle, may_serve, signalled_by, MaySignal, MayServe, row_done, mispredicted_counter, answer_by, dropped_by}
unfoldable pub use Rattle.st_ahead.specs.Calls.{machine_after_completion, machine_after_tick, machine_after_segment, machine_after_settling, answer, drop_count}
pub use Rattle.st_refine.specs.Reached.{IsReached, Starts, Ticks, Settles, Signals, Reads, Prints, Stops, CanStart, IsCard, MayTick, start_of}
pub use Rattle.st_state.specs.declared.devices.Order.{Order}
pub use Rattle.st_prep.proofs.PlanLemmas.{plan-prepared, fixed-indicators}
pub use Rattle.st_exec.proofs.MachineKept.{kept-completed, kept-stored}
pub use Rattle.st_ahead.proofs.Settling.{due-taken, counted-index}
pub use Rattle.st_ring.proofs.OrderLemmas.{after-c}
pub use Rattle.st_bits.specs.declared.register.TheConstants.{FIRST_STORAGE_WORD, FIRST_INDEX_WORD}
pub use Rattle.st_prep.specs.Fetch.{index_words, address_by}
unfoldable pub use Rattle.st_prep.specs.Fetch.{place_of}
pub use Rattle.st_prep.specs.declared.entries.Prepared.{Prepared}
pub use Rattle.st_ring.specs.Unwinding.{index_words_after, Kept, unwound, ChangeKeeps}
unfoldable pub use Rattle.st_segment.specs.Alone.{RunAhead}
pub use Rattle.st_segment.specs.Predictions.{table_behind}
unfoldable pub use Rattle.st_segment.specs.Predictions.{predictions, split_words}
pub use Rattle.st_segment.specs.Ahead.{Ahead, next_ahead}
unfoldable pub use Rattle.st_segment.specs.Ahead.{ahead, issue_behind, prepared_before, reads_before}
pub use Rattle.st_segment.proofs.PredictionLemmas.{behind-none, prediction-machine, ahead-next, predictions-machine, behind-indicator}
pub use Rattle.st_ring.proofs.UndoLemmas.{levels-keep, plan-keeps}
pub use Rattle.st_ahead.specs.Shown.{IsLevelOf, AreLevelsOf, word_before_change, level_shown}
unfoldable pub use Rattle.st_ahead.specs.Shown.{lent_index_words, view_at_tick}
pub use Rattle.st_refine.specs.Refined.{state_before, table_before, issue_before, fills_at, AddsOneAtMost, row_before, IsUnwound, level_seen, IsStill}
pub use Rattle.st_rows.proofs.MadeLemmas.{before-cases, made-behind, free-one, made-more}
pub use Rattle.st_exec.proofs.StepLemmas.{step-done}
pub use Rattle.st_ahead.specs.declared.events.Settled.TheVariants.{Goes, Interrupt, Mispredicted, Waits}
pub use Rattle.st_refine.specs.Openings.{Change, Signalled, ReadIn, PrintedOut, state_after_change, ExternalEvents, Opening, first_opening, StandsAt}
unfoldable pub use Rattle.st_refine.specs.Openings.{with_changes, state_after, issue_at, reads_after, banks_behind, opening_behind, reads_of_segment}
pub use Rattle.st_ahead.specs.declared.events.LevelView.{LevelView}
