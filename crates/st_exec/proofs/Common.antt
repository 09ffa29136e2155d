-- The names that proofs of this crate use, passed on from one place. Declares nothing.
pub use Rattle.std.proofs.Common.{◌≡◌, ◌≢◌, ℕ, ◌+◌, ◌^◌, ◌<◌, ◌≤◌, ◌⊎◌, inl, inr, Bool, true, false, not, ◌&&◌, if◌then◌else◌, Option, None, Some, List, length, refl, sym, ◌∙◌, ap, subst, arith, get_or, get_or-set_other, drop, ◌*◌, ◌/◌, ◌%◌, ◌==◌, ◌-◌, take, ◌++◌, length-append, zero, suc, [], ◌∷◌, append_assoc, zero-add, ◌||◌, rules}
pub use Rattle.std.specs.Prelude.{IfSome, nat_le, is_some, nat_lt, slice_index}
pub use Rattle.std.proofs.Math.ListN.{set}
pub use Rattle.std.proofs.lemmas.List.{length-set, get_or-set_same, length-take, length-drop, get_or-take, get_or-drop, get_or_past, get_or_append_left, get_or-append_right, ext_get_or, drop-drop, take-append-drop, drop_more, get_or-replicate}
pub use Rattle.std.proofs.lemmas.Bool.Decides.{leb_tells, eqb_tells, nat_tests}
pub use Rattle.std.proofs.lemmas.Nat.Bits.{bit_at-lt}
pub use Rattle.std.proofs.Math.Nat.{pow-succ', pow-le-pow_right, mod-lt, div-le_self, mod-eq_of_lt}
pub use Rattle.std.proofs.lemmas.Bool.{leb-true, leb-false, eqb-true, ltb-false, eqb-false}
pub use Rattle.std.proofs.lemmas.Nat.{pow_pos, mul-lt}
unfoldable pub use Rattle.st_bits.specs.Registers.{register_word, fixed_from}
pub use Rattle.st_bits.specs.Storage.{words_of_storage, words_of_storage_is}
pub use Rattle.st_bits.proofs.RegisterLaws.{fixed-index, fixed-twice, fixed_below}
pub use Rattle.st_format.specs.declared.instruction.Instr.{Instr}
pub use Rattle.st_format.specs.declared.instruction.Instr.TheVariants.{Half, Branch, Floating, Vfl, Connect, Move, BitBranch, IndBranch, StoreCounter, Transfer, Invalid}
pub use Rattle.st_state.specs.Machine.{Machine, IsMachine, word, state_with_store, with_word, state_with_bits, HasArea}
pub use Rattle.st_state.proofs.Placed.{fixed-word}
pub use Rattle.st_prep.specs.declared.entries.IndexChange.{IndexChange}
pub use Rattle.st_prep.specs.declared.entries.Words.{Words}
pub use Rattle.st_prep.specs.declared.entries.Prepared.{Prepared}
pub use Rattle.st_prep.specs.SpeculativeChanges.{words_after}
pub use Rattle.st_prep.specs.Entry.{no_words, one_run, operand_words, is_index_store, reads_field, is_serial_branch, words_moved_to}
unfoldable pub use Rattle.st_prep.specs.Entry.{is_serial_operation, field_words, reads, words_written}
unfoldable pub use Rattle.st_prep.specs.Fetch.{index_words}
pub use Rattle.st_prep.specs.Plan.{state_at_entry, plan}
pub use Rattle.st_prep.specs.Ranges.{IsChange, AreAbove, IsPrepared, HasFields, AreInside, HasRoomInStorage}
pub use Rattle.st_prep.proofs.IndexWords.{are_index_words}
pub use Rattle.st_exec.specs.Effect.{effect, index_effect, branch_effect, indicator_effect, IsField, AreRuns, bit_effect, move_effect, order_standing, machine_with_order, state_with_order}
unfoldable pub use Rattle.st_exec.specs.Effect.{carried_out, effect_of, state_with_copy, state_with_exchange}
pub use Rattle.st_exec.specs.Completion.{with_change, counter, state_counted_on}
unfoldable pub use Rattle.st_exec.specs.Completion.{state_with_speculative_changes, is_taken, state_after_effect, state_after_completion, predicted_state, is_mispredicted, target}
pub use Rattle.st_exec.specs.Ahead.{IsNotAmong, IsPast, is_indicator_branch}
pub use Rattle.st_bits.specs.Bits.{part}
unfoldable pub use Rattle.st_bits.specs.Bits.{bits, num, all_bits, field, put, words_of}
pub use Rattle.st_bits.specs.declared.operations.HalfOp.{HalfOp}
pub use Rattle.st_bits.specs.declared.operations.HalfOp.TheVariants.{Sx, Sv, Sc, Sr, Sva}
pub use Rattle.st_bits.specs.declared.operations.ConnKind.{ConnKind}
pub use Rattle.st_bits.specs.declared.operations.BranchOp.{BranchOp}
pub use Rattle.st_bits.specs.declared.operations.BranchOp.TheVariants.{Be, Bd, Bew}
pub use Rattle.st_bits.specs.declared.operations.VflOp.{VflOp}
pub use Rattle.st_bits.specs.declared.operations.VflOp.TheVariants.{Ke, Kfe, Kr, Kfr, L, Lwf, Ltrs, Lft, St, Add, AddMg, MAdd, MAddMg, MAdd1, K, Kf, Mul, MulAdd, Div, Lcv}
pub use Rattle.st_bits.proofs.BitLists.{length-bits}
pub use Rattle.st_format.specs.declared.operations.FullOp.TheVariants.{Variable, Connective}
pub use Rattle.st_format.specs.Operations.{writes_field}
pub use Rattle.st_state.specs.Interrupts.{state_with_indicators, state_with_signal, indicator_word}
pub use Rattle.st_field.specs.declared.accumulator.Acc.{Acc}
pub use Rattle.st_field.specs.declared.base.Taken.{Taken}
pub use Rattle.st_field.specs.Bases.{InBase, result_of, operand_taken}
unfoldable pub use Rattle.st_field.specs.Bases.{store_result}
pub use Rattle.st_field.specs.declared.fields.Shape.{Shape}
pub use Rattle.st_field.specs.declared.outcome.Done.{Done}
pub use Rattle.st_prep.specs.Alike.{AreAlike}
pub use Rattle.st_exec.specs.Operand.{field_at, operand_bits, accumulator, AreRead, AreOperands, AreFirstOperands}
pub use Rattle.st_conn.specs.Connection.{connection}
pub use Rattle.st_exec.specs.Outcome.{bits_taken, result_by, with_register, with_accumulator, with_field, shape_of}
unfoldable pub use Rattle.st_exec.specs.Outcome.{operation_outcome, connects, with_registers, with_result}
pub use Rattle.st_bits.proofs.WordFields.{field-in_word, field-within, field-beyond, num-in_word, num-at_word, num-at_two}
pub use Rattle.st_state.specs.declared.devices.Order.{Order}
pub use Rattle.st_exec.specs.declared.effects.Effect.{Effect}
pub use Rattle.st_exec.specs.declared.effects.Effect.TheVariants.{Rest, Put, Copy, Exchange, TurnOff, Enable, Wait, Give, Leave}
pub use Rattle.st_exec.specs.Transfer.{read_in, printed_out}
unfoldable pub use Rattle.st_exec.specs.Transfer.{all_stored, words_from}
pub use Rattle.st_conn.specs.Connective.{connective_bits, is_covered, inserted_at}
unfoldable pub use Rattle.st_conn.specs.Connective.{by_weight, accumulator_bits}
pub use Rattle.st_bits.specs.declared.operations.ConnKind.TheVariants.{C, Cm, Ct}
pub use Rattle.st_prep.proofs.Choices.{of_choice}
pub use Rattle.st_prep.proofs.PlanLemmas.{fixed-indicators, is_machine-opened}
pub use Rattle.st_format.specs.Formats.{bit_of, FitsField}
