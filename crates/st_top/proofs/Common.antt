-- The names that proofs of this crate use, passed on from one place. Declares nothing.
pub use Rattle.std.proofs.Common.{◌≡◌, ℕ, ◌+◌, ◌&&◌, Bool, true, false, if◌then◌else◌, List, [], ◌∷◌, ◌++◌, length, filter, refl, sym, ◌∙◌, ap, subst, Option, Some, None, arith, ◌≢◌, ◌≤◌, ◌<◌, zero, suc, ◌-◌, nat_le, drop, get_or-set_other, length-append, ◌==◌, ◌^◌, inl, inr, nat_eq, not, codes, take, map, min, get_or, append_assoc, ◌||◌, append-nil, is_some, All, reverse, slice_index_or, ◌*◌, rules}
pub use Rattle.std.specs.List.{list_all, flat_map, zip, filter_map, AllPass}
pub use Rattle.std.proofs.lemmas.Bool.Decides.{nat_tests}
pub use Rattle.std.proofs.lemmas.List.{length-set, length-drop, drop-append-le, drop_more, map-append, take_at, length_push, length-map, take_all, nil_from_length}
pub use Rattle.std.specs.Prelude.{MatchOption, IfSome, IsSome, slice_get, Result, Ok, Err, IsErr, OnOk, OnErr, IfOk, slice_index}
pub use Rattle.std.proofs.lemmas.Bool.{and_cases, and_right, and_parts, leb-true, eqb-true, not-false, true≢false, le-leb, or_parts}
pub use Rattle.std.proofs.lemmas.List.Elements.{filter-append, All-head, All-tail, filter_map-append, All-nil, All-cons, All-append}
pub use Rattle.std.specs.String.{string_bytes}
pub use Rattle.st_text.specs.Pieces.{words, pieces_of, onto_first}
pub use Rattle.st_bits.specs.declared.limits.TheConstants.{LONGEST_LIST, MOST_DELAY, MOST_CARDS}
pub use Rattle.st_card.specs.Cards.{columns, kind_of, cards_of, text_in, IsCardOf, card_at, cards_from}
pub use Rattle.st_card.specs.Keywords.{keyword_order, keyword_in, card_numbers}
pub use Rattle.st_card.specs.Controls.{Asked, is_in_range, with_delays, with_keyword, with_card, with_words, asked_with_card, nothing_asked}
pub use Rattle.st_card.specs.declared.cards.CardKind.{CardKind}
pub use Rattle.st_card.specs.declared.cards.CardKind.TheVariants.{Comment, Control, Statement}
pub use Rattle.st_card.specs.declared.keywords.Keyword.{Keyword}
pub use Rattle.st_top.specs.Delays.{is_delays, begins_delays, is_control, IsAccepted, DifferInDelaysAlone, HasGoodLines, HasShortDeck, AreDelaysGood, DelaysShowInMarksAlone, HasGoodDelays, delays_behind_end, texts_behind_end, others_behind_end, DifferInDelaysCards}
unfoldable pub use Rattle.st_top.specs.Delays.{is_delays_card, asked_in}
pub use Rattle.st_state.specs.Machine.{Machine, IsMachine, word, with_word, state_with_store, opening_state}
pub use Rattle.st_state.specs.declared.devices.Order.{Order}
pub use Rattle.st_exec.specs.Step.{rests, IsStep, interrupt}
pub use Rattle.st_exec.specs.Transfer.{read_in}
unfoldable pub use Rattle.st_exec.specs.Transfer.{all_stored}
pub use Rattle.st_run.specs.Run.{Scene, PlainEvent, Prints, Interrupts, Executes, with_due_signals, if_due, with_device, interrupts_by, uneventful, with_order, Transition, scene_after_step, state_next, scenes}
unfoldable pub use Rattle.st_run.specs.Run.{interlude, run, with_due_orders, with_order_at_rest, with_wait}
pub use Rattle.st_run.specs.ExternalEvents.{PendingEvents, scene_at}
pub use Rattle.st_exec.proofs.StepLemmas.{step_made, step-done}
pub use Rattle.st_back.specs.declared.kept.KeptStep.{KeptStep}
pub use Rattle.st_back.specs.Steps.{Steps, none_of, newest_step, IsForth, IsStepKept, IsPut, has_room, IsBack}
unfoldable pub use Rattle.st_back.specs.Steps.{states_before}
pub use Rattle.st_back.proofs.ManyLemmas.{between-states, forth-states, back-states, put-states}
pub use Rattle.st_top.specs.Beside.{Beside, IsFreshStep, HasRoomForCard, IsOpen, IsKept, IsBesideReady, IsMoved, IsStepped, IsBeside, HasMadeRun, StandsAtEnd}
pub use Rattle.clap.specs.Words.{matches_of, takes, first_of, found_of, is_simple}
pub use Rattle.st_top.specs.CommandLine.{is_plain, three_words, command_by}
pub use Rattle.st_top.specs.declared.command.Command.{Command}
pub use Rattle.st_card.specs.declared.faults.Fault.TheVariants.{TooManyCards, BadControlCard, CardAfterEnd}
pub use Rattle.st_object.specs.Object.{Program, IsReading, object_lines, IsProgram, object_text, read_text}
pub use Rattle.st_dis.specs.Deck.{card_count, word_cards, statement_card, end_text, control_cards, deck_cards}
unfoldable pub use Rattle.st_dis.specs.Deck.{deck_text}
pub use Rattle.st_top.specs.ObjectText.{program_in, whole_lines}
unfoldable pub use Rattle.st_top.specs.ObjectText.{deck_lines, object_text_lines}
pub use Rattle.st_top.specs.Output.{Output, lines_alone, refusal_output, deck_by, ran_by, swept_by, assembled_by, loaded_by, disassembled_by, scene_of_assembly, loaded_start, output_of_run, scene_at_start, output_of_sweep}
unfoldable pub use Rattle.st_top.specs.Output.{output_of}
pub use Rattle.st_top.specs.declared.answer.Status.TheVariants.{Done, Refused, WriteFault, Usage, JobTooLong, ReadFault, NoMemory}
pub use Rattle.st_card.specs.declared.keywords.Number.TheVariants.{Delays}
pub use Rattle.st_run.specs.TimedRun.{timed_run, event_at, ticks_before, snapshots_from, drops_if_ends, happening_at, snapshot_at, completion, last_snapshot_at, timed_from}
unfoldable pub use Rattle.st_run.specs.TimedRun.{drops, events_between, until_done, last_events}
pub use Rattle.st_run.proofs.CourseLemmas.{last-same, timed-none, timed-step, scenes-same}
pub use Rattle.st_run.specs.Moments.{moment_at_start, Moment, Standing, next_state, standing_at, next_moment, ends_segment, moments}
pub use Rattle.st_run.specs.ReportedEvents.{TimedReportedEvent, timed_reported_event, reported_event}
unfoldable pub use Rattle.st_run.specs.ReportedEvents.{reported_events}
pub use Rattle.st_top.specs.Marks.{marked_load, marked_disassembled, texts_up_to_end, end_card, listed_lines, marked_by, is_delay, marked_cards, marked_object, marked_deck, marked_assembled}
unfoldable pub use Rattle.st_top.specs.Marks.{lines_unmarked, marked_report, marked_run, marked_output, up_to_end, marked_listing}
unfoldable pub use Rattle.st_top.specs.States.{states}
pub use Rattle.st_top.specs.StepsBack.{states_of_run, events_of_run, last_state, lines_of_steps_back, block_before}
unfoldable pub use Rattle.st_top.specs.StepsBack.{moment_at_end, run_report}
pub use Rattle.st_top.specs.declared.reporting.TheConstants.{LEVELS}
pub use Rattle.st_asm.specs.Assembly.{Assembly, together, assembly_parts}
unfoldable pub use Rattle.st_asm.specs.Assembly.{assembly, with_defaults}
pub use Rattle.st_asm.specs.Pass.{Refusal, onward, pass, unless_faulty, pass_then}
pub use Rattle.st_object.specs.DelayLines.{DifferInDelayLines, is_delay_line}
pub use Rattle.st_object.proofs.OtherDelays.{again-read, lines-differ, others-same}
pub use Rattle.st_object.proofs.ReadingLemmas.{reading-only, reading-is}
pub use Rattle.st_top.specs.declared.command.Command.TheVariants.{Run, Assemble, Load, Disassemble, Sweep, Soak}
pub use Rattle.st_text.specs.Bytes.{lf, line_end}
pub use Rattle.st_card.specs.Written.{control_line, asked_by, requests}
pub use Rattle.st_card.specs.declared.keywords.Once.TheVariants.{Budget, Back}
pub use Rattle.st_card.specs.declared.cards.Card.{Card}
pub use Rattle.st_asm.specs.declared.naming.Symbol.{Symbol}
pub use Rattle.st_asm.specs.declared.valuing.Listed.{Listed}
pub use Rattle.st_exch.specs.Reader.{has_statement, is_comment, is_statement, card_words}
unfoldable pub use Rattle.st_exch.specs.Reader.{behind_statements, reader_cards, texts_in}
pub use Rattle.st_io.specs.Event.{lines_of, at_moment, StoppedAt, Event}
pub use Rattle.st_object.specs.Lines.{line_text}
pub use Rattle.st_report.specs.Listing.{listed_line, symbol_line}
pub use Rattle.st_top.specs.Listing.{rows_lines, symbols_lines, HasCards, listing_row_line, front_lines, made_lines}
unfoldable pub use Rattle.st_top.specs.Listing.{listing}
pub use Rattle.st_top.specs.DelayLaws.{AreAlikeBesideDelays}
pub use Rattle.st_telling.specs.Report.{joined, block, parts_at, lines_told, line_if, snapshot_lines}
unfoldable pub use Rattle.st_telling.specs.Report.{report}
pub use Rattle.st_report.specs.Line.{back_line, prt_line, trc_line, row_line, drop_line, int_line, time_line, end_line, done_line, ticks_line, levels_line, fault_line, calm_line}
pub use Rattle.st_io.specs.Output.{OutputState, Wrote}
pub use Rattle.st_io.specs.declared.Failed.{Failed}
pub use Rattle.st_io.specs.Lines.{WritesLines, text, StoppedIn}
pub use Rattle.st_io.proofs.Progress.{LinesSoFar, lines_more, lines_failed, lines_then, lines_cut, wrote_nothing}
pub use Rattle.st_io.proofs.Writing.{lines_of-append, lines_of-at_moment, wrote_at_moment, stopped_at_moment}
pub use Rattle.st_run.proofs.ShownLemmas.{tick-same}
pub use Rattle.st_run.specs.Events.{Timed, TimetableEvent, Completes, Drops, Shows, Happens, drop_of}
unfoldable pub use Rattle.st_run.specs.Events.{plain_run, snapshot}
unfoldable pub use Rattle.st_run.specs.Order.{last_completion}
pub use Rattle.st_telling.specs.Running.{WritesEvents}
unfoldable pub use Rattle.st_telling.specs.Running.{last_moment}
pub use Rattle.st_telling.proofs.Runs.{events_cut, events_then, lines_and_run}
pub use Rattle.st_top.specs.Answers.{WroteAll, Writes, KeepsTime}
pub use Rattle.st_top.specs.declared.answer.Answer.{Answer}
pub use Rattle.st_card.specs.declared.faults.Fault.{Fault}
pub use Rattle.st_asm.specs.Lines.{name_field, statement_field, silent_line}
pub use Rattle.st_asm.specs.Symbols.{table, has_name}
unfoldable pub use Rattle.st_asm.specs.Symbols.{names_of}
pub use Rattle.st_asm.specs.Naming.{Named, naming_at_start}
unfoldable pub use Rattle.st_asm.specs.Naming.{name_pass, name_fault, name_step, name_card}
pub use Rattle.st_asm.specs.Valuing.{Emitted, emitting_at_start}
unfoldable pub use Rattle.st_asm.specs.Valuing.{value_pass, value_card}
pub use Rattle.st_asm.proofs.KeptLemmas.{form_pass-numbers, name_pass-counts, value_pass-numbers}
pub use Rattle.st_run.proofs.DoneLemmas.{settled-done}
pub use Rattle.st_card.specs.declared.control_cards.Signal.{Signal}
pub use Rattle.st_run.specs.Reached.{IsCard}
pub use Rattle.st_run.specs.Scenes.{IsScene}
pub use Rattle.st_sweep.specs.Sweep.{without_cards}
unfoldable pub use Rattle.st_sweep.specs.Sweep.{ticks}
pub use Rattle.st_top.specs.Sweep.{sweep_lines, sweep_start}
unfoldable pub use Rattle.st_top.specs.Sweep.{levels_lines, sweep_of}
pub use Rattle.st_top.specs.Layers.{Ends}
pub use Rattle.st_telling.proofs.Snapshots.{levels_cut, levels_then}
