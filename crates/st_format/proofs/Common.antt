-- The names that proofs of this crate use, passed on from one place. Declares nothing.
pub use Rattle.std.proofs.Common.{◌≡◌, ℕ, ◌%◌, ◌<◌, ◌==◌, ◌||◌, Bool, true, false, Option, None, Some, refl, sym, ◌∙◌, ap, lit<, ◌+◌, ◌*◌, ◌^◌, ◌≤◌, ◌&&◌, if◌then◌else◌, arith, ◌-◌, ◌/◌, not, zero, suc, List, [], ◌∷◌, subst, unwrap_or}
pub use Rattle.std.specs.Prelude.{nat_le, is_some, nat_lt}
pub use Rattle.std.proofs.lemmas.Bool.{leb-false, eqb-true, ne_eqb, le-ltb, eqb-false, ltb-false}
pub use Rattle.std.specs.Option.{option_map}
pub use Rattle.st_bits.specs.declared.operations.HalfOp.{HalfOp}
pub use Rattle.st_bits.specs.declared.operations.BranchOp.{BranchOp}
pub use Rattle.st_bits.specs.declared.operations.VflOp.{VflOp}
pub use Rattle.st_bits.specs.declared.operations.ConnKind.{ConnKind}
pub use Rattle.st_format.specs.declared.operations.FullOp.{FullOp}
pub use Rattle.st_format.specs.declared.operations.FullOp.TheVariants.{Variable, Transmission, Order, Connective, BitTest, IndicatorTest, CounterStore}
pub use Rattle.st_format.specs.Operations.{half_number, branch_number, vfl_number, kind_number, full_number, writes_field, operation_at}
unfoldable pub use Rattle.st_format.specs.Operations.{half_ops, branch_ops, full_ops, kinds, numbered_op, half_op, branch_op, kind, full_op}
pub use Rattle.st_format.specs.declared.instruction.Instr.{Instr}
pub use Rattle.st_format.specs.Halves.{later, is_one, half_word_part, or_greatest}
unfoldable pub use Rattle.st_format.specs.Halves.{is_full, i_of, address_of, j_of, operation_of, bit_address_of, second_address_of, p_of, length_of, byte_of, offset_of, k_of, words_moved, half_bits, first_bits, second_half_bits, second_bits}
pub use Rattle.st_format.specs.Validity.{is_invalid, is_refused, misfits, misuses_p, miscounts, unused_in_kind, unused_k, unused_marks, has_misfit, has_misused_p, has_miscount}
unfoldable pub use Rattle.st_format.specs.Validity.{is_invalid_half, breaks_rules}
pub use Rattle.st_format.specs.Formats.{branch_instruction, index_instruction, full_word, first_half, second_half, bit_of, FitsHalf, FitsFull, FitsField, IsRefusal, IsShape, is_no_instruction}
unfoldable pub use Rattle.st_format.specs.Formats.{half_word, full_word_instruction, instruction_of}
