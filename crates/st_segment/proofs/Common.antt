-- The names that proofs of this crate use, passed on from one place. Declares nothing.
pub use Rattle.std.proofs.Common.{◌≡◌, ℕ, zero, suc, ◌+◌, ◌-◌, ◌<◌, ◌≤◌, Bool, true, false, ◌&&◌, if◌then◌else◌, List, [], ◌∷◌, ◌++◌, length, get_or, take, drop, Option, None, Some, refl, sym, subst, ◌∙◌, ap, arith, length-append, ◌/◌, ◌==◌, ◌≢◌, get_or-set_other, ◌⊎◌, inl, inr, ◌*◌, ◌%◌, ◌^◌, not}
pub use Rattle.std.specs.Prelude.{All, IfSome, is_none, nat_le, nat_lt}
pub use Rattle.std.proofs.lemmas.List.{get_or_append_left, append-nil, length-set, ext_get_or, get_or-take, get_or-drop, length-take, length-drop}
pub use Rattle.std.proofs.lemmas.Bool.{and_parts, leb-true, leb-false, ltb-false, and_cases, or_parts}
pub use Rattle.st_state.specs.Machine.{Machine, IsMachine, word, with_word, state_with_store}
pub use Rattle.st_prep.specs.Fetch.{words_fetched, address_by, reading_of}
unfoldable pub use Rattle.st_prep.specs.Fetch.{index_words, place_of}
pub use Rattle.st_prep.specs.Plan.{needs, side_word, prepared_entry, decode_context_of, IsSeen, state_at_entry}
unfoldable pub use Rattle.st_prep.specs.Plan.{decode_context, plan}
pub use Rattle.st_prep.specs.Reading.{index_side_words, Reading, Finds, Reads, half_of, Continuation, with_second, read_after, with_target, fetched_alone}
unfoldable pub use Rattle.st_prep.specs.Reading.{words_read, own_words, outcome, with_first, instruction_at, is_execute, own_use, reading_at_place}
pub use Rattle.st_prep.proofs.Choices.{of_choice}
pub use Rattle.st_prep.proofs.PlanLemmas.{plan-prepared, same_seen}
pub use Rattle.st_prep.proofs.PreparedLemmas.{is_needs, prepared-read}
pub use Rattle.st_prep.proofs.ReadingLemmas.{fetched-outcome, reading-few, outcome-same}
pub use Rattle.st_segment.specs.Alone.{words_of_run, IsSameAhead}
unfoldable pub use Rattle.st_segment.specs.Alone.{word_list_from, RunAhead, is_word_written}
pub use Rattle.st_segment.specs.Entries.{reading_at, words_to_write, entry_with}
unfoldable pub use Rattle.st_segment.specs.Entries.{instruction_words, own_count, run_of, above_registers, words_to_read, side_to_read, entry}
pub use Rattle.st_prep.specs.SpeculativeChanges.{words_after, effective}
pub use Rattle.st_exec.specs.Ahead.{IsPast, IsNotAmong}
pub use Rattle.st_exec.specs.Completion.{prediction, with_change, is_taken, state_after_completion, state_after_execution}
unfoldable pub use Rattle.st_exec.specs.Completion.{state_with_speculative_changes, predicted_state, is_mispredicted}
pub use Rattle.st_exec.proofs.UnwrittenLemmas.{speculative-index_words, predicted-past, predicted-machine, predicted-unwritten, predicted-following, predicted-alone}
pub use Rattle.st_segment.specs.Predictions.{table_behind, after_speculative_change}
unfoldable pub use Rattle.st_segment.specs.Predictions.{predictions, split_words}
pub use Rattle.st_prep.specs.declared.entries.Place.{Place}
pub use Rattle.st_prep.specs.declared.entries.Prepared.{Prepared}
pub use Rattle.st_prep.specs.BesideOrders.{AreAlikeBesideOrders}
pub use Rattle.st_rows.specs.Rows.{row_of_entry, issue_after_entry}
pub use Rattle.st_rows.specs.declared.issue.IssueState.{IssueState}
pub use Rattle.st_segment.specs.Ahead.{next_ahead}
unfoldable pub use Rattle.st_segment.specs.Ahead.{ahead, issue_behind}
