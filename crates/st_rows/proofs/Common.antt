-- The names that proofs of this crate use, passed on from one place. Declares nothing.
pub use Rattle.std.proofs.Common.{◌≡◌, ℕ, zero, suc, ◌+◌, ◌<◌, ◌≤◌, max, List, refl, arith, Option, None, Some, true, false, [], ◌++◌, All, get_or, ap, ◌∙◌, ◌∷◌, inl, inr, ◌⊎◌, ◌-◌, length, take, drop, set, ◌%◌, ◌≢◌, length-set, sym, append_assoc, length-append, ◌^◌, subst, ◌*◌, replicate, ◌/◌, bit_and, ap₂, slice_index_or}
pub use Rattle.std.specs.Prelude.{if◌then◌else◌, nat_lt, Bool, IfSome, map, slice_set, ◌==◌, ◌||◌, ◌&&◌, nat_le}
pub use Rattle.std.proofs.lemmas.Bool.{ltb-true, lt-ltb, cases_Bool, ltb-false, le-ltb, cases_lt, cases_eq}
pub use Rattle.std.proofs.lemmas.List.Elements.{All-nil, All-cons, All-append, All-head, All-tail, All-drop, All-weaker, All-from_get_or, All-get_or, All-take, All-replicate, All-set}
pub use Rattle.std.proofs.lemmas.List.{append-nil, same_lists, take_all, get_or-set_same, get_or-set_other, get_or-take, length-map, map-set, get_or-map, get_or-replicate, get_or_default, length-take-le, take-append-le, take_more_set}
pub use Rattle.std.specs.Int.{trailing_zeros, w64, bit_at, bit_not}
pub use Rattle.std.proofs.Math.Nat.{mod-lt, max-le, mul-le-mul_right, suc-mul}
pub use Rattle.std.proofs.lemmas.Bool.Decides.{nat_tests}
pub use Rattle.st_rows.specs.BusTimes.{Read, accept_at, answer_if, after_one, answer_at, requested_if, bus_if}
unfoldable pub use Rattle.st_rows.specs.BusTimes.{answer_tick_on, bus_after_request, bus_after_read}
pub use Rattle.st_rows.specs.Entries.{no_runs, has_words, entries_in, ticks_in, entry_in, IsEntryRing, no_entry}
unfoldable pub use Rattle.st_rows.specs.Entries.{latest_done, is_among, writer_bits, is_in}
pub use Rattle.st_rows.specs.Rows.{wanted_from, done_before, followings, opening_issue, inside_wish, own_fetched, first_read, own_uses, target_uses, index_uses, first_uses, second_uses, following_uses}
unfoldable pub use Rattle.st_rows.specs.Rows.{words_tick, tick_p, bus_a, operands, tick_a, address_tick, preparation_tick, index_arrival, tick_c, row_of_entry, issue_after_entry, reads_of_entry, uses_of_entry}
pub use Rattle.st_rows.specs.Words.{request_inside, fill_at, fills, is_forwarded}
unfoldable pub use Rattle.st_rows.specs.Words.{fetch_word, fetch_words, read_word, read_words, operands_read, fills_of, bus_after_index_read, side_there, bus_after_prefetch}
pub use Rattle.st_rows.specs.Uses.{forwarded_at, read_made, use_of, unused, wish_of, answered_by, words_of}
unfoldable pub use Rattle.st_rows.specs.Uses.{behind, behind_use, uses, wishes, reads_of}
pub use Rattle.st_rows.specs.declared.past.Past.{Past}
pub use Rattle.st_rows.specs.declared.entry.Entry.{Entry}
pub use Rattle.st_rows.specs.declared.fetching.Fetching.{Fetching}
pub use Rattle.st_rows.specs.declared.issue.IssueState.{IssueState}
pub use Rattle.st_bits.specs.Storage.{words_of_storage, words_of_storage_is}
pub use Rattle.st_fetch.specs.Planned.{tick_of}
pub use Rattle.st_rows.specs.Asked.{word_asked, data_asked, inside_asked, runs_asked, data_of, formed_asked, prepared_asked, side_count, own_reads}
unfoldable pub use Rattle.st_rows.specs.Asked.{words_asked, side_asked, operands_asked, following_asked, fetches_asked, bus_after_reads, made_before}
pub use Rattle.st_rows.specs.declared.bus.Bus.{Bus}
pub use Rattle.st_rows.specs.declared.entry.WordRuns.{WordRuns}
pub use Rattle.st_rows.specs.Ranges.{AreDelaysUpTo, ArePastWithin, IsTight, IsEntryInTime, IsNear, IsBusWithin, IsFetchingWithin, IsReadingWithin}
pub use Rattle.st_banks.specs.Bank.{bank_of, last_of, answered_at}
pub use Rattle.st_fetch.specs.Queue.{window}
pub use Rattle.st_fetch.proofs.Windows.{length-window, get_or-window, window-oldest, window-pop}
pub use Rattle.st_rows.specs.Notes.{note, AreEarly, AreSettled, AreFalling, IsLogged}
unfoldable pub use Rattle.st_rows.specs.Notes.{notes_of_reads, answers_left, log_after_reads}
pub use Rattle.st_rows.specs.declared.log.Made.{Made}
pub use Rattle.st_rows.specs.Levels.{AreInOrder, AreOlderDone, issue_of_last, AreEqual, IsHeldSooner, IsBusSooner, IsPastSooner, IsIssueSooner, IsRowSooner, IsUnwritten, IsHazardFree, AreHazardFree, AreCovered}
unfoldable pub use Rattle.st_rows.specs.Levels.{rows_of_entries}
pub use Rattle.st_rows.specs.declared.past.Done.{Done}
pub use Rattle.st_rows.specs.declared.uses.Wish.{Wish}
pub use Rattle.st_rows.specs.declared.uses.Role.TheVariants.{Instruction, Operand, Following}
pub use Rattle.st_banks.specs.Delay.{delay}
pub use Rattle.st_fetch.specs.declared.fetched.AskedWord.{AskedWord}
pub use Rattle.st_rows.specs.Supplies.{told, writer_back}
unfoldable pub use Rattle.st_rows.specs.Supplies.{register_uses}
pub use Rattle.st_rows.specs.declared.uses.Use.{Use}
