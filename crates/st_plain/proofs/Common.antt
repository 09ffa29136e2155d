-- The names that proofs of this crate use, passed on from one place. Declares nothing.
pub use Rattle.std.specs.Prelude.{if◌then◌else◌, is_none, nat_lt, Bool, map, nat_le}
pub use Rattle.std.proofs.Common.{◌≡◌, ℕ, ◌+◌, ◌-◌, ◌/◌, ◌≤◌, true, false, ◌==◌, List, [], ◌∷◌, length, Option, None, Some, refl, sym, ◌∙◌, ap, arith, zero, suc, ◌<◌, ◌++◌, get_or, take, subst, append_assoc, length-set, max, inl, inr, length-append}
pub use Rattle.std.proofs.lemmas.Bool.{and_parts, lt-ltb, le-ltb, cases_Bool}
pub use Rattle.std.proofs.lemmas.Bool.Decides.{nat_tests}
pub use Rattle.std.proofs.lemmas.List.{length-drop, append-nil, get_or-set_same, take_all, length_push}
pub use Rattle.st_state.specs.Machine.{Machine, word, IsMachine}
pub use Rattle.st_prep.specs.Plan.{needs, prepared_by}
unfoldable pub use Rattle.st_prep.specs.Plan.{decode_context, resolved, resolved_at, entry_at, suppressed_entry, prepared_entry, plan}
pub use Rattle.st_prep.specs.declared.entries.Needs.{Needs}
pub use Rattle.st_prep.specs.declared.entries.Prepared.{Prepared}
pub use Rattle.st_rows.specs.declared.entry.Entry.{Entry}
pub use Rattle.st_segment.specs.Entries.{reading_at}
unfoldable pub use Rattle.st_segment.specs.Entries.{run_of, instruction_words, own_count, entry, side_to_read}
pub use Rattle.st_plain.specs.Looking.{code_of, code_found, known_at, seen_ahead}
unfoldable pub use Rattle.st_plain.specs.Looking.{side_at, executes_at, executed_code, first_late, reads_up_to}
pub use Rattle.st_plain.specs.declared.known.Code.{Code}
pub use Rattle.st_plain.specs.declared.known.Known.{Known}
pub use Rattle.st_exec.specs.Completion.{state_after_completion, prediction}
unfoldable pub use Rattle.st_exec.specs.Completion.{predicted_state}
pub use Rattle.st_rows.specs.Asked.{formed_asked, bus_after_reads, prepared_asked}
pub use Rattle.st_rows.specs.BusTimes.{Read, answer_at}
unfoldable pub use Rattle.st_rows.specs.BusTimes.{bus_after_read, bus_after_request}
pub use Rattle.st_rows.specs.Entries.{no_runs, latest_done}
pub use Rattle.st_rows.specs.Notes.{log_after_reads}
pub use Rattle.st_rows.specs.Rows.{bus_a, tick_c, done_before, reads_of_entry, wanted_from, own_uses, own_fetched, target_uses, words_tick, tick_a, index_uses, first_uses, first_read, second_uses, operands, followings}
unfoldable pub use Rattle.st_rows.specs.Rows.{row_of_entry, issue_after_entry, tick_p, preparation_tick}
pub use Rattle.st_rows.specs.declared.log.Made.{Made}
pub use Rattle.st_rows.specs.declared.past.Past.{Past}
pub use Rattle.st_rows.proofs.Noted.{noted-two}
pub use Rattle.st_rows.proofs.Served.{served-append, served-asked, served-formed, wishes-length, followings-length}
pub use Rattle.st_rows.specs.declared.issue.IssueState.{IssueState}
pub use Rattle.st_rows.specs.declared.bus.Bus.{Bus}
pub use Rattle.st_segment.specs.Ahead.{Ahead, next_ahead}
unfoldable pub use Rattle.st_segment.specs.Ahead.{ahead, prepared_before}
pub use Rattle.st_rows.specs.declared.issue.EntryTicks.{EntryTicks}
pub use Rattle.st_rows.specs.declared.uses.Use.{Use}
pub use Rattle.st_plain.specs.Uses.{formed_uses, prepared_uses, registers_among, side_register}
unfoldable pub use Rattle.st_plain.specs.Uses.{uses_of_entry, fetch_uses, side_uses, operand_uses, data_uses, inside_uses, following_uses}
pub use Rattle.st_rows.specs.Words.{request_inside}
unfoldable pub use Rattle.st_rows.specs.Words.{bus_after_index_read, side_there, read_words}
pub use Rattle.st_rows.specs.Uses.{words_of, wish_of, use_of, unused}
unfoldable pub use Rattle.st_rows.specs.Uses.{behind, behind_use, uses}
pub use Rattle.st_rows.specs.Ranges.{IsEntryInTime}
pub use Rattle.st_rows.proofs.Tight.{later-c, tight-after}
pub use Rattle.st_rows.proofs.Within.{delays-are}
