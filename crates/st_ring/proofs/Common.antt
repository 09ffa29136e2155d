-- The names that proofs of this crate use, passed on from one place. Declares nothing.
pub use Rattle.std.proofs.Common.{◌≡◌, ℕ, ◌<◌, ◌≤◌, ◌||◌, Bool, true, false, List, [], ◌∷◌, length, All, Option, None, refl, sym, ◌∙◌, arith, suc, ◌-◌, drop, Some, subst, ap, ◌≢◌, zero, set, ◌+◌, not, ◌&&◌, get_or, take, ◌⊎◌, inl, inr, ap₂, ◌++◌, length-append, ℤ, rules, ◌%◌}
pub use Rattle.std.proofs.lemmas.List.Elements.{All-head, All-tail, All-cons, All-nil, All-weaker, All-push}
pub use Rattle.std.specs.Prelude.{IfSome, slice_get, nat_lt, nat_le, if◌then◌else◌, slice_set, slice_index_or, slice_index}
pub use Rattle.std.proofs.lemmas.Bool.{ltb-true, ltb-false, leb-true, leb-false, lt-ltb, le-ltb, le-leb, and_parts, eqb-true, eqb-false, cases_eq}
pub use Rattle.std.proofs.lemmas.List.{set-set, set-get_or, get_or_default}
pub use Rattle.std.proofs.lemmas.Option.{slice_get_within, get_or_from_slice_get}
pub use Rattle.st_state.specs.Machine.{Machine, IsMachine, word}
pub use Rattle.st_prep.specs.Plan.{resolved, needs, side_word, prepared_by}
unfoldable pub use Rattle.st_prep.specs.Plan.{plan, decode_context, suppressed_entry, prepared_entry}
pub use Rattle.st_exec.specs.Completion.{prediction, state_after_execution, is_mispredicted}
pub use Rattle.st_rows.specs.Rows.{tick_p, bus_a, tick_c}
unfoldable pub use Rattle.st_rows.specs.Rows.{row_of_entry, issue_after_entry}
pub use Rattle.st_rows.specs.declared.entry.Entry.{Entry}
pub use Rattle.st_rows.specs.declared.issue.IssueState.{IssueState}
pub use Rattle.st_ring.specs.declared.level.Level.{Level}
unfoldable pub use Rattle.st_segment.specs.Entries.{entry, above_registers, words_to_read}
unfoldable pub use Rattle.st_segment.specs.Alone.{RunAhead, is_word_written}
pub use Rattle.st_ring.specs.Levels.{IsLevel, AreAhead, have_of, oldest_issue, is_oldest_due, LevelsView}
unfoldable pub use Rattle.st_ring.specs.Levels.{AreLevels, AreFull}
pub use Rattle.st_ring.specs.declared.plans.PlannedRow.{PlannedRow}
pub use Rattle.st_prep.specs.Fetch.{index_words, place_of}
pub use Rattle.st_segment.specs.Predictions.{after_speculative_change, table_behind}
unfoldable pub use Rattle.st_segment.specs.Predictions.{predictions, split_words}
pub use Rattle.st_segment.proofs.PredictionLemmas.{behind-none, prediction-machine}
pub use Rattle.st_segment.proofs.IndexLemmas.{prediction-past, split-change, index-split}
pub use Rattle.st_ring.specs.Slots.{level_with_slot, fill_tick, is_there, IsKeptSlot, put_of, coming, came_at, level_with_words}
unfoldable pub use Rattle.st_ring.specs.Slots.{slot_of}
pub use Rattle.st_prep.specs.declared.entries.Prepared.{Prepared}
pub use Rattle.st_prep.specs.FewWords.{is_transmission}
pub use Rattle.st_prep.specs.Ranges.{IsPrepared}
pub use Rattle.st_prep.proofs.PlanLemmas.{plan-prepared}
pub use Rattle.st_rows.specs.Entries.{is_among}
unfoldable pub use Rattle.st_rows.specs.Entries.{latest_done}
pub use Rattle.st_rows.specs.Ranges.{AreDelaysUpTo, IsEntryInTime}
pub use Rattle.st_rows.specs.Words.{read_word, fill_at, fills, is_forwarded}
unfoldable pub use Rattle.st_rows.specs.Words.{fills_of}
pub use Rattle.st_rows.specs.declared.past.Past.{Past}
pub use Rattle.st_segment.specs.Ahead.{next_ahead}
unfoldable pub use Rattle.st_segment.specs.Ahead.{ahead, issue_behind, prepared_before}
pub use Rattle.st_prep.specs.SpeculativeChanges.{words_after, without_change}
unfoldable pub use Rattle.st_prep.specs.SpeculativeChanges.{change_of_index, change_of_comparison, half_change, progressive_change, change}
pub use Rattle.st_ring.specs.OneLevel.{prepared_at, level_with_word}
pub use Rattle.st_ring.specs.PlannedRows.{planned_row}
pub use Rattle.st_ring.specs.Unwinding.{ChangeKeeps, put_back}
unfoldable pub use Rattle.st_ring.specs.Unwinding.{index_words_after, Kept, unwound}
pub use Rattle.st_fetch.proofs.Windows.{length-window, window-pop, window-push, window-set, get_or-window, window-oldest, window-youngest}
