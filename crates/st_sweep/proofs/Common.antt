-- The names that proofs of this crate use, passed on from one place. Declares nothing.
pub use Rattle.std.specs.Prelude.{◌&&◌, ◌||◌, ◌==◌, not, nat_lt, nat_le, if◌then◌else◌, is_none, IfSome, map}
pub use Rattle.std.proofs.Common.{◌≡◌, ℕ, zero, suc, List, ◌∷◌, arith, ◌+◌, ◌≤◌, ◌<◌, true, [], length, slice_index, sym, ◌∙◌, ap, subst, ◌-◌, inl, inr, Bool, false, All, Option, None, Some, refl, ◌≢◌, get_or, set, replicate, ◌⊎◌, ◌++◌, rules}
pub use Rattle.std.specs.List.{list_all, list_any, AllPass}
pub use Rattle.std.proofs.lemmas.Bool.{and_parts, or_parts, not-true, eqb-true, leb-false, cases_lt, cases_eq, cases_Bool}
pub use Rattle.std.proofs.lemmas.List.{length-set, get_or-set_same, get_or-set_other}
pub use Rattle.st_exec.specs.Step.{rests, interrupt}
unfoldable pub use Rattle.st_exec.specs.Step.{step}
pub use Rattle.st_rows.specs.declared.entry.WordRuns.{WordRuns}
pub use Rattle.st_run.specs.Run.{Scene, interlude, scene_after_step, with_due_signals, with_due_orders, state_next, scenes}
unfoldable pub use Rattle.st_run.specs.Run.{run}
pub use Rattle.st_sweep.specs.HazardFree.{next_writes, is_hazard_free, are_equal, next_side}
unfoldable pub use Rattle.st_sweep.specs.HazardFree.{is_hazard_free_entry, is_hazard_free_interlude, are_hazard_free_entries, is_hazard_free_behind, is_among_written, are_written, one_is_written, side_is_written}
pub use Rattle.st_sweep.specs.Sweep.{without_cards}
unfoldable pub use Rattle.st_sweep.specs.Sweep.{ticks}
pub use Rattle.st_state.specs.Machine.{Machine}
pub use Rattle.st_prep.specs.Plan.{plan, needs, decode_context}
pub use Rattle.st_exec.specs.Completion.{is_mispredicted, state_after_execution}
unfoldable pub use Rattle.st_rows.specs.Entries.{is_among, is_in}
pub use Rattle.st_rows.specs.Levels.{AreEqual, IsUnwritten, IsRunUnwritten, IsHazardFree, IsIssueSooner, AreInOrder, AreCovered}
pub use Rattle.st_segment.specs.Entries.{words_to_write}
unfoldable pub use Rattle.st_segment.specs.Entries.{above_registers, words_to_read, side_to_read, entry}
pub use Rattle.st_sweep.specs.Marks.{AreMarks}
unfoldable pub use Rattle.st_sweep.specs.Marks.{marks_with}
pub use Rattle.st_prep.specs.declared.entries.Prepared.{Prepared}
pub use Rattle.st_card.specs.declared.control_cards.Signal.{Signal}
pub use Rattle.st_run.specs.Moments.{Moment, moment_at_start, next_state, standing_at}
unfoldable pub use Rattle.st_run.specs.Moments.{ends_segment, next_issue, next_row, next_moment}
pub use Rattle.st_run.specs.TimedRun.{events_between, completion, timed_from, timed_behind, timed_run}
unfoldable pub use Rattle.st_run.specs.TimedRun.{snapshots_from}
unfoldable pub use Rattle.st_run.specs.Order.{last_completion}
pub use Rattle.st_run.proofs.ShownLemmas.{last-append, last_events-tick, tick-same}
pub use Rattle.st_run.specs.ExternalEvents.{PendingEvents, scene_at}
pub use Rattle.st_sweep.specs.Starts.{ticks_from}
unfoldable pub use Rattle.st_sweep.specs.Starts.{last_told}
