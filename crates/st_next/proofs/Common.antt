-- The names that proofs of this crate use, passed on from one place. Declares nothing.
pub use Rattle.std.specs.Prelude.{All, IfSome, option_map, not, nat_lt}
pub use Rattle.std.proofs.Common.{◌≡◌, ℕ, ◌+◌, ◌*◌, ◌-◌, ◌^◌, ◌≤◌, max, true, false, if◌then◌else◌, List, [], ◌∷◌, ◌++◌, map, Option, None, Some, refl, sym, ◌∙◌, ap, arith, append_assoc, zero, suc, ◌<◌, Bool, ◌||◌, length, inl, inr, ◌==◌, subst, ◌/◌, ◌⊎◌, get_or, take, length-append}
pub use Rattle.std.proofs.lemmas.List.{append-nil, map-append, get_or_append_left, get_or-append_right}
pub use Rattle.std.proofs.lemmas.List.Elements.{All-cons, All-nil, All-append}
pub use Rattle.std.proofs.Math.Nat.{add-zero, zero-add, suc-add}
pub use Rattle.st_fetch.specs.Planned.{tick_of}
pub use Rattle.st_state.specs.Machine.{Machine, word, IsMachine}
pub use Rattle.st_prep.specs.Plan.{decode_context_of, needs, DecodeContext, asks, prepared_entry, state_at_entry, side_word}
unfoldable pub use Rattle.st_prep.specs.Plan.{decode_context, plan}
pub use Rattle.st_prep.specs.Ranges.{IsPlace, IsPrepared}
pub use Rattle.st_prep.proofs.PlanLemmas.{decode_context-fits, plan-prepared}
pub use Rattle.st_rows.specs.Asked.{word_asked, formed_asked, runs_asked, following_asked, prepared_asked, data_of}
unfoldable pub use Rattle.st_rows.specs.Asked.{side_asked, bus_after_reads, words_asked, fetches_asked}
pub use Rattle.st_rows.specs.BusTimes.{Read, answer_if}
unfoldable pub use Rattle.st_rows.specs.BusTimes.{bus_after_request, answer_tick_on}
unfoldable pub use Rattle.st_rows.specs.Notes.{log_after_reads}
pub use Rattle.st_rows.specs.Ranges.{IsEntryInTime, AreDelaysUpTo, IsReadable}
pub use Rattle.st_rows.specs.Rows.{wanted_from, index_uses, operands, reads_of_entry}
unfoldable pub use Rattle.st_rows.specs.Rows.{words_tick, tick_a, bus_a, index_arrival, tick_p, address_tick}
pub use Rattle.st_rows.specs.Words.{is_forwarded}
unfoldable pub use Rattle.st_rows.specs.Words.{fetch_word, bus_after_index_read, fetch_words, side_there}
pub use Rattle.st_rows.specs.Supplies.{told, use_told}
pub use Rattle.st_rows.specs.Uses.{read_made, forwarded_at, use_of, unused, wish_of}
unfoldable pub use Rattle.st_rows.specs.Uses.{behind_use, behind, reads_of, uses, wishes}
pub use Rattle.st_rows.specs.declared.uses.Use.{Use}
pub use Rattle.st_rows.specs.declared.entry.Entry.{Entry}
pub use Rattle.st_rows.specs.declared.entry.WordRun.{WordRun}
pub use Rattle.st_rows.specs.declared.past.Past.{Past}
pub use Rattle.st_rows.specs.declared.fetching.Fetching.{Fetching}
pub use Rattle.st_rows.specs.declared.issue.IssueState.{IssueState}
pub use Rattle.st_rows.specs.declared.log.Made.{Made}
pub use Rattle.st_rows.proofs.Served.{served-append, served-side, served-word, served-fetches}
pub use Rattle.st_rows.proofs.Stages.{wanted-early, fetched-within, a-within}
pub use Rattle.st_rows.proofs.Within.{past-weaker, fetching-weaker, delays-are}
pub use Rattle.st_segment.specs.Alone.{words_of_run}
unfoldable pub use Rattle.st_segment.specs.Alone.{word_list_from}
pub use Rattle.st_segment.specs.Entries.{reading_at, entry_with}
unfoldable pub use Rattle.st_segment.specs.Entries.{entry, instruction_words, own_count, side_to_read, run_of}
pub use Rattle.st_segment.proofs.EntryRanges.{entry-ranges, entry-words, entry-own}
pub use Rattle.st_next.specs.Words.{words_alone, words_so_far, asked_so_far, IsStart, AreFirstWords, run_with_word}
pub use Rattle.st_next.specs.Progress.{IsKnown, reads_so_far, wanted_next, IsUnread, IsNext, Rests, IsPlanned, IsNextReady, IsReadOn, preparation_without_side}
pub use Rattle.st_next.specs.Going.{IsIssueInTime, IsEarly, IsReadFurther, prepared_as, GoesOnTo, as_entry, AreLeft, IsPreparedBy}
unfoldable pub use Rattle.st_next.specs.Going.{AdvancesTo}
pub use Rattle.st_next.specs.Told.{IsToldFurther, told_so_far, formed_told}
unfoldable pub use Rattle.st_next.specs.Told.{words_told}
pub use Rattle.st_next.specs.declared.fetch_unit.FetchUnit.{FetchUnit}
pub use Rattle.st_prep.specs.declared.entries.Place.{Place}
pub use Rattle.st_prep.specs.Fetch.{index_words}
unfoldable pub use Rattle.st_prep.specs.Fetch.{place_of, words_fetched}
pub use Rattle.st_prep.specs.Reading.{Reading, is_execute, Finds, Reads, half_of, Continuation, with_second, read_after, with_target, fetched_alone, fetched_plain, allowed_found}
unfoldable pub use Rattle.st_prep.specs.Reading.{reading_at_place, left_after, fetching_of, words_read, own_words, outcome, with_first, instruction_at, own_use}
pub use Rattle.st_next.specs.Known.{IsStateBefore}
pub use Rattle.st_prep.specs.declared.entries.Fetched.{Fetched}
pub use Rattle.st_prep.specs.declared.entries.Fetching.TheVariants.{Next, Found}
pub use Rattle.st_prep.proofs.PreparedLemmas.{alone-serial, is_prepared, is_needs, same_serial}
pub use Rattle.st_prep.proofs.GivenLemmas.{differs, known-found, is_none, is_some}
pub use Rattle.st_prep.specs.declared.entries.Needs.{Needs}
pub use Rattle.st_prep.specs.declared.entries.Prepared.{Prepared}
pub use Rattle.st_format.specs.Formats.{decoded_entry, instruction_of}
