-- The names that proofs of this crate use, passed on from one place. Declares nothing.
pub use Rattle.std.proofs.Common.{ℕ, ◌*◌, ◌^◌, ◌<◌, ℤ, pos, negsuc, ◌+ℤ◌, List, arith, ◌≡◌, ◌≢◌, ◌+◌, ◌%◌, ◌≤◌, Bool, true, false, ◌==◌, length, take, drop, get_or, set, Option, None, Some, refl, sym, subst, ◌∙◌, ap, get_or-set_other, zero, suc, ◌/◌, neg_ℤ, if◌then◌else◌, is_none, is_some, [], ◌∷◌, ◌-◌, ◌||◌, bit_and, inl, inr, ◌++◌, not, ◌&&◌, rules}
pub use Rattle.std.specs.Prelude.{nat_lt, slice_index, All, IfSome, unwrap_or, unsigned_abs, nat_le, MatchResult}
pub use Rattle.std.proofs.lemmas.Grind.{get_or-set_at, take-set_at}
pub use Rattle.std.proofs.lemmas.Bool.{eqb-true, ltb-false, leb-false}
pub use Rattle.std.proofs.lemmas.Bool.Decides.{nat_tests, leb_tells}
pub use Rattle.std.proofs.lemmas.List.{ext_get_or, get_or-take, get_or-drop, length-take, length-drop, get_or_past, length-set}
pub use Rattle.st_bits.specs.IndexWord.{index_value, count_of, index_word_with_value, with_count, with_refill, sign_bit}
pub use Rattle.st_format.specs.declared.instruction.Instr.{Instr}
pub use Rattle.st_format.specs.declared.instruction.Instr.TheVariants.{Half, Branch, Floating, Vfl, Connect, Move, BitBranch, IndBranch, StoreCounter, Transfer, Invalid}
pub use Rattle.st_index.specs.IndexChange.{modulo, effective_address, with_added, one_less, with_lower_count, selected_sum, is_counting, increment_of, progressive_word}
pub use Rattle.st_prep.specs.SpeculativeChanges.{index_operand, without_change}
unfoldable pub use Rattle.st_prep.specs.SpeculativeChanges.{half_word_address, full_word_address, field_address, effective, change_of_comparison, change_of_index, half_change, progressive_change, change, side}
pub use Rattle.st_bits.specs.Bits.{part, bits, with_part}
pub use Rattle.st_bits.specs.Storage.{words_of_storage_is, words_of_storage}
pub use Rattle.st_bits.specs.Indicators.{indicator}
pub use Rattle.st_state.specs.Interrupts.{indicator_word}
pub use Rattle.st_state.specs.Machine.{Machine, IsMachine, word}
pub use Rattle.st_prep.specs.declared.entries.Place.{Place}
pub use Rattle.st_prep.specs.Fetch.{address_by, reading_of}
unfoldable pub use Rattle.st_prep.specs.Fetch.{index_words, place_of, words_fetched}
pub use Rattle.st_prep.specs.Plan.{state_at_entry, side_word, decode_context_of, DecodeContext, needs_by, prepared_by, entry_by, side_of, IsSeen, is_alone, asks}
unfoldable pub use Rattle.st_prep.specs.Plan.{needs, prepared_entry, decode_context, plan, resolved_at, resolved, suppressed_entry, entry_at, is_serial}
pub use Rattle.st_prep.specs.Reading.{index_side_words, Reading, Finds, Reads, half_of, Continuation, with_second, read_after, with_target, fetched_alone, given_by, fetched_plain, allowed_found}
unfoldable pub use Rattle.st_prep.specs.Reading.{outcome, words_read, reading_at_place, with_first, instruction_at, is_execute, own_use, left_after, fetching_of, own_words}
pub use Rattle.st_prep.specs.Alike.{AreAlike, ReadTheSame}
pub use Rattle.st_bits.specs.declared.operations.HalfOp.{HalfOp}
pub use Rattle.st_bits.specs.declared.operations.HalfOp.TheVariants.{Lx, Lv, Lc, Lr, Sx, Sv, Sc, Sr, Sva, VPlus, VPlusC, Kv, Lvs, Lvi, Lci, Lri, VPlusI, VMinusI, VPlusIC, VPlusICR, Kvi, Kc, Kci, Cb, Cbr, R, Ex}
pub use Rattle.st_prep.specs.declared.speculative.SpeculativeChange.{SpeculativeChange}
pub use Rattle.st_prep.specs.Ranges.{HasFields, IsChange, IsFoundInRange, IsFetched, IsPrepared, FitsPart, IsStored, IsPlace, IsNeeds, IsRuns, AreInside, AreAbove, HasRoomInStorage}
pub use Rattle.st_prep.specs.declared.entries.Words.{Words}
pub use Rattle.st_prep.specs.Entry.{no_words, operand_words, words_moved_from, reads_field, one_run, is_index_store, next_by, after_half, after_branch, stored_part, binary_cost, decimal_cost, is_serial_operation, is_register, two_runs, words_moved_to}
unfoldable pub use Rattle.st_prep.specs.Entry.{field_words, reads, words_written, counter_behind, counter_after, value_stored, cost, has_register}
pub use Rattle.st_prep.specs.Checks.{execute_exception, area_access}
unfoldable pub use Rattle.st_prep.specs.Checks.{effective_instr, forbidden_run, forbidden_side, forbidden_words, forbidden_area, operation_invalid, fault}
pub use Rattle.st_format.specs.declared.instruction.Decoded.{Decoded}
pub use Rattle.st_format.specs.Formats.{IsShape, decoded_entry, instruction_of, is_valid, spelled_as}
unfoldable pub use Rattle.st_format.specs.Formats.{full_word_instruction}
pub use Rattle.st_state.specs.Boundary.{is_invalid_word, is_protected, address_invalid}
unfoldable pub use Rattle.st_state.specs.Boundary.{forbidden_by}
pub use Rattle.st_state.specs.declared.protection.Access.TheVariants.{Fetch, Read, Write}
pub use Rattle.st_prep.specs.declared.fetching.FoundInstruction.{FoundInstruction}
pub use Rattle.st_format.specs.declared.operations.FullOp.TheVariants.{Variable, Connective, Transmission, BitTest, IndicatorTest, Order, CounterStore}
pub use Rattle.st_format.specs.Operations.{writes_field}
pub use Rattle.st_prep.specs.declared.entries.Prepared.{Prepared}
pub use Rattle.st_state.specs.declared.protection.Access.{Access}
pub use Rattle.st_prep.specs.declared.entries.Fetched.{Fetched}
pub use Rattle.st_prep.specs.declared.entries.Fetching.TheVariants.{Next, Found}
pub use Rattle.st_prep.specs.declared.fetching.Part.TheVariants.{Has}
pub use Rattle.st_format.proofs.Spelled.{or-left, or-right}
