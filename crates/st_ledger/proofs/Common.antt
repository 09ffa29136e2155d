-- The names that proofs of this crate use, passed on from one place. Declares nothing.
pub use Rattle.std.specs.Prelude.{if◌then◌else◌, Result, Ok, Err, IsErr, Bool, ◌||◌, Option, None, Some, reverse, All, replicate, nat_eq, zero, suc, nat_lt, nat_le, take, not, ◌&&◌, find, unwrap_or, map, drop, position, get_or}
pub use Rattle.std.proofs.Common.{◌≡◌, ℕ, ◌+◌, ◌-◌, ◌≤◌, inl, inr, max, List, [], ◌∷◌, ◌++◌, refl, sym, ◌∙◌, ap, subst, arith, ◌<◌, true, false, ◌⊎◌, length-append, append_assoc, get_or-take, ◌/◌, ◌%◌, ◌*◌, ◌^◌, length, codes, decimal}
pub use Rattle.std.proofs.lemmas.Bool.{le-ltb, cond_both, cases_Bool, eqb-true, cases_lt, or_right, eq-eqb, ltb-true, ltb-false, le-leb, lt-leb, and_from, or_left, leb-false, and_parts, or_cases, and_left, and_right, lt-ltb, ne_eqb, leb-true, not-true}
pub use Rattle.std.specs.List.{list_any}
pub use Rattle.std.proofs.lemmas.List.{append-nil, reverse-append, length-reverse, length-take, length-set, take-append-drop, nil_from_length}
pub use Rattle.std.proofs.lemmas.List.Elements.{All-nil, All-cons, All-head, All-tail, All-weaker, All-append, All-take, All-drop}
pub use Rattle.std.proofs.lemmas.List.Folds.{list_any-append}
pub use Rattle.std.proofs.lemmas.Bool.Decides.{nat_tests}
pub use Rattle.std.proofs.lemmas.Fmt.{length-decimal-le}
pub use Rattle.st_ledger.specs.declared.charges.Charge.{Charge}
pub use Rattle.st_ledger.specs.declared.charges.StagePart.{StagePart}
pub use Rattle.st_ledger.specs.declared.charges.Stage.{Stage}
pub use Rattle.st_ledger.specs.declared.charges.Stage.TheVariants.{Restart, Address, Preparing, Executing}
pub use Rattle.st_ledger.specs.Charges.{part_charges, is_stage, ticks_of, parts_of_row, charges}
unfoldable pub use Rattle.st_ledger.specs.Charges.{charges_behind, ticks_for, all_ticks, stage_at, Follow}
pub use Rattle.st_ledger.specs.Lines.{sum_line, stage_name}
pub use Rattle.st_ledger.specs.declared.waits.Stall.{Stall}
pub use Rattle.st_ledger.specs.declared.waits.Stall.TheVariants.{Turn, Bank, Storage}
pub use Rattle.st_ledger.specs.declared.waits.Wait.{Wait}
pub use Rattle.st_ledger.specs.Sums.{is_stall, share_at, AreSharesWithin, is_parted}
unfoldable pub use Rattle.st_ledger.specs.Sums.{all_stalled, stalled_for}
pub use Rattle.st_banks.specs.declared.answers.LastAnswers.{LastAnswers}
pub use Rattle.st_rows.specs.Entries.{no_runs, is_among}
unfoldable pub use Rattle.st_rows.specs.Entries.{latest_done}
pub use Rattle.st_rows.specs.Ranges.{IsEntryInTime, ArePastWithin, AreDelaysUpTo, IsTight}
pub use Rattle.st_rows.specs.Rows.{wanted_from, reads_of_entry, done_before, completion_of, opening_issue}
unfoldable pub use Rattle.st_rows.specs.Rows.{issue_after_entry, words_tick, address_tick, tick_a, tick_p, tick_c, preparation_tick, operands, bus_a, row_of_entry, index_arrival}
pub use Rattle.st_rows.specs.Words.{request_inside, is_forwarded, fill_at}
unfoldable pub use Rattle.st_rows.specs.Words.{fetch_words, fetch_word, read_word, read_words, bus_after_index_read, operands_read, bus_after_prefetch, side_there}
pub use Rattle.st_rows.specs.declared.entry.Entry.{Entry}
pub use Rattle.st_rows.specs.declared.fetching.Fetching.{Fetching}
pub use Rattle.st_rows.specs.declared.issue.IssueState.{IssueState}
pub use Rattle.st_rows.proofs.Within.{latest-within, past-weaker}
pub use Rattle.st_plain.specs.Uses.{formed_uses, inside_uses, following_uses, prepared_uses, run_uses}
unfoldable pub use Rattle.st_plain.specs.Uses.{instruction_uses, fetch_uses, side_uses, operand_uses, data_uses, uses_of_entry}
pub use Rattle.st_rows.specs.declared.uses.Role.TheVariants.{Instruction, Index, Operand, Following}
pub use Rattle.st_rows.specs.declared.uses.Use.{Use}
pub use Rattle.st_ledger.specs.Reasons.{side_writer, reason_of_side, reason_of_address, row_reason, back_to, is_first, is_written, reason_or}
unfoldable pub use Rattle.st_ledger.specs.Reasons.{because, is_stored, reason_done, reason_of_words, reason_in_order, reason_of_bus, writer_of_supply}
pub use Rattle.st_ledger.specs.Words.{is_role, IsReadInTime, is_instruction, decides}
unfoldable pub use Rattle.st_ledger.specs.Words.{is_answered_at, is_read, read_of, is_answered}
pub use Rattle.st_ledger.specs.Paths.{is_side_read, IsPath, PathEnds, IsForAddress, is_serial_at, is_store_at, is_bus_at, is_read_between, IsNothingDone, IsNothingThere, IsFirstAnswered, IsNoneAnswered, PathGoesOn}
unfoldable pub use Rattle.st_ledger.specs.Paths.{EndsByRow, EndsAt}
pub use Rattle.st_ledger.specs.Segments.{Told, IsTold}
unfoldable pub use Rattle.st_ledger.specs.Segments.{issue_of, last_uses, uses_behind, all_uses}
pub use Rattle.st_rows.specs.Uses.{forwarded_at}
unfoldable pub use Rattle.st_rows.specs.Uses.{uses, behind_use, reads_of, wishes, behind}
pub use Rattle.st_rows.specs.Asked.{word_asked, data_asked, runs_asked, inside_asked, following_asked, formed_asked, prepared_asked}
unfoldable pub use Rattle.st_rows.specs.Asked.{bus_after_reads, words_asked, side_asked, operands_asked, fetches_asked}
pub use Rattle.st_rows.specs.BusTimes.{answer_at, after_one, requested_if, answer_if}
unfoldable pub use Rattle.st_rows.specs.BusTimes.{bus_after_read, bus_after_request, answer_tick_on}
pub use Rattle.st_rows.specs.declared.bus.Bus.{Bus}
pub use Rattle.st_rows.specs.Supplies.{read_ticks, fetch_supply, storage_supply, writer_back, one_behind}
unfoldable pub use Rattle.st_rows.specs.Supplies.{register_uses}
pub use Rattle.st_ledger.specs.Served.{Served, brings, IsWrittenBy}
unfoldable pub use Rattle.st_ledger.specs.Served.{served, reads_told, busy_until, AreBankedBehind, AreBrought, is_held_until}
pub use Rattle.st_bits.specs.Storage.{words_of_storage}
pub use Rattle.st_fetch.specs.Planned.{tick_of, asked_for, no_word}
pub use Rattle.st_prep.specs.declared.entries.Words.{Words}
pub use Rattle.st_rows.specs.declared.past.Past.{Past}
unfoldable pub use Rattle.st_segment.specs.Entries.{side_to_read}
pub use Rattle.st_rows.specs.declared.uses.Role.{Role}
pub use Rattle.st_rows.specs.declared.uses.Supply.TheVariants.{Register, Read, Held, Forwarded}
pub use Rattle.st_rows.proofs.UseLemmas.{reads-are, side_if, followed-is, read_if}
pub use Rattle.st_rows.specs.declared.uses.Supply.{Supply}
pub use Rattle.st_plain.proofs.UseLemmas.{inside-told, following-told}
pub use Rattle.st_rows.specs.declared.issue.EntryTicks.{EntryTicks}
pub use Rattle.st_ledger.specs.Waits.{charge_waits}
unfoldable pub use Rattle.st_ledger.specs.Waits.{stage_waits, data_waits, fetch_waits, wait_piece, acceptance_of, is_accepted_between, turns, read_waits, held_waits, bus_waits}
pub use Rattle.st_ledger.specs.Causes.{is_cause, IsTrueOf}
unfoldable pub use Rattle.st_ledger.specs.Causes.{FallTo, has_cause}
pub use Rattle.st_ledger.specs.declared.waits.Accepted.{Accepted}
pub use Rattle.st_text.specs.Numerals.{half_address}
pub use Rattle.st_rows.proofs.Awaited.{ready-after}
pub use Rattle.st_text.specs.Bytes.{lf}
