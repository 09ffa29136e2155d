-- The names that proofs of this crate use, passed on from one place. Declares nothing.
pub use Rattle.std.specs.Prelude.{Bool, if◌then◌else◌, nat_eq, slice_index, slice_set, Result, Ok, Err, IsErr, ◌==◌, Option, not, IsOk, option_map}
pub use Rattle.std.proofs.Common.{◌≡◌, ◌≢◌, ℕ, zero, suc, ◌+◌, ◌-◌, ◌<◌, ◌≤◌, inl, inr, true, false, List, [], ◌++◌, length, length-set, length-append, get_or-set_other, refl, sym, ◌∙◌, ap, subst, arith, ◌*◌, ◌%◌, ◌∷◌, get_or, ◌/◌, ◌^◌, append_assoc, None, Some, take, drop, max, drop-cons, add-one, codes, decimal, rules}
pub use Rattle.std.proofs.lemmas.Bool.Decides.{leb_tells, eqb_tells, nat_tests}
pub use Rattle.std.proofs.lemmas.List.{get_or-set_same, ext_get_or, length-take-le, get_or_append_left, get_or-take, get_or-append-add, get_or-drop, length-drop, append-nil, nil_from_length, length-take}
pub use Rattle.std.proofs.lemmas.Bool.{lt-ltb, le-ltb, eqb-true}
pub use Rattle.st_bits.specs.Storage.{words_of_storage, words_of_storage_is}
pub use Rattle.st_bits.specs.declared.limits.TheConstants.{WORDS}
pub use Rattle.st_io.specs.Output.{OutputState, Wrote}
pub use Rattle.st_io.specs.declared.Failed.{Failed}
pub use Rattle.st_io.specs.Lines.{WritesLines, text}
unfoldable pub use Rattle.st_io.specs.Lines.{lines_for}
pub use Rattle.st_io.proofs.Progress.{LinesSoFar, lines_none, lines_more, lines_failed, lines_for_next, lines_for_whole, wrote_nothing, lines_then, lines_cut, lines_whole, lines_last}
pub use Rattle.st_state.specs.Machine.{Machine, word}
pub use Rattle.st_lines.specs.BorderLines.{differs, taken_by, nonzero_word_lines}
unfoldable pub use Rattle.st_lines.specs.BorderLines.{word_change_lines, drop_lines, begun_entry_lines, segment_end_lines, en_lines, prints_lines, marks_lines, state_lines, words_lines, whole_state_lines}
pub use Rattle.st_lines.specs.Changes.{IsUntouched, AreOthersAlike, IsOutsideArea}
pub use Rattle.st_text.specs.Numerals.{hex_digit, hex_word, half_address, flag}
unfoldable pub use Rattle.st_text.specs.Numerals.{hex_text}
pub use Rattle.st_rows.specs.declared.uses.Use.{Use}
pub use Rattle.st_lines.specs.EntryLines.{alone_by, suppressed_by, suppressed_lines, code_lines, run_lines, index_lines}
unfoldable pub use Rattle.st_lines.specs.EntryLines.{alone_lines, emitted_lines, facts_lines, done_entry_lines}
pub use Rattle.st_lines.specs.UseLines.{is_told, use_line, role_text, supply_text, is_before}
unfoldable pub use Rattle.st_lines.specs.UseLines.{use_lines}
pub use Rattle.st_lines.specs.declared.origins.Origin.{Origin}
pub use Rattle.st_lines.specs.Lines.{delays_line, delays_lines, dropped_line, begun_line, segment_end_line, ledger_levels_line}
unfoldable pub use Rattle.st_lines.specs.Lines.{numbers_text, tens_of}
pub use Rattle.st_report.specs.Line.{prt_line, en_line, ic_line, end_line, done_line, ticks_line}
pub use Rattle.st_lines.specs.Origins.{card_by, is_kept, origin_by}
unfoldable pub use Rattle.st_lines.specs.Origins.{origin_at}
pub use Rattle.st_ledger.specs.declared.charges.StagePart.{StagePart}
pub use Rattle.st_ledger.specs.declared.charges.Stage.{Stage}
pub use Rattle.st_ledger.specs.Charges.{part_charges, parts_of_row, is_stage}
unfoldable pub use Rattle.st_ledger.specs.Charges.{charges_behind, all_ticks}
pub use Rattle.st_ledger.specs.Waits.{charge_waits}
unfoldable pub use Rattle.st_ledger.specs.Waits.{stage_waits}
pub use Rattle.st_ledger.specs.Sums.{AreSharesWithin, AreWaitsWithin, is_parted, waited_at, all_stalled}
unfoldable pub use Rattle.st_ledger.specs.Sums.{stalled_for, row_stalled}
pub use Rattle.st_ledger.specs.declared.sums.WaitTotals.{WaitTotals}
pub use Rattle.st_ledger.specs.declared.waits.Stall.{Stall}
pub use Rattle.st_lines.specs.Waited.{AddsWaits}
pub use Rattle.st_banks.specs.Bank.{bank_of}
pub use Rattle.st_ledger.specs.Lines.{charge_line, stage_name}
pub use Rattle.st_lines.specs.WaitLines.{wait_line, wait_sum_line, stall_name}
unfoldable pub use Rattle.st_lines.specs.WaitLines.{wait_lines, charged_lines, wait_sum_lines}
pub use Rattle.st_text.specs.Bytes.{lf}
pub use Rattle.st_ledger.proofs.FromEnd.{seven_pieces, thirteen_pieces}
