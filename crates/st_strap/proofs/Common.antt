-- The names that proofs of this crate use, passed on from one place. Declares nothing.
pub use Rattle.std.proofs.Common.{◌≡◌, ◌≤◌, ◌<◌, ◌||◌, ℕ, zero, suc, Bool, true, false, nat_lt, nat_le, List, [], ◌∷◌, ◌++◌, length, drop, replicate, Option, Some, None, is_none, Result, Ok, Err, refl, ap, sym, ◌∙◌, arith, if◌then◌else◌, ◌-◌, get_or, take, ◌^◌, ◌==◌, unwrap_or, codes, decimal, ◌+◌, ◌*◌, not, is_some, append_assoc, length-append, ◌&&◌, cond, subst, lit<, lit≤}
pub use Rattle.std.specs.List.{list_any, zip, list_all}
pub use Rattle.std.specs.Option.{option_map, ok_or, option_and_then, IfSome, option_or, option_map_or, option_zip}
pub use Rattle.std.proofs.lemmas.Bool.Decides.{nat_tests}
pub use Rattle.std.specs.Result.{result_err, IfOk}
pub use Rattle.std.proofs.Math.Seq.{take-length, drop-append_seam}
pub use Rattle.std.proofs.lemmas.List.{length-take-le, take_all, drop_all, take_at}
pub use Rattle.std.proofs.lemmas.List.Folds.{list_all-append}
pub use Rattle.st_text.specs.Number.{is_filled, reading, is_number, digits_value}
pub use Rattle.st_text.specs.Tables.{row_of, is_same}
pub use Rattle.st_card.specs.declared.faults.Fault.{Fault}
pub use Rattle.st_card.specs.declared.faults.Fault.TheVariants.{BadName, UnknownOperation, BadDataDescription, BadProgressive, BadFieldCount, BadExpression, BadIndex, NumberTooLarge}
pub use Rattle.st_text.specs.declared.numbers.Reading.TheVariants.{Bad, Large, Good}
pub use Rattle.st_expr.specs.Expression.{parts, any_bad, any_large, terms_of, expr_of, onto_part, parts_after, expr_in}
pub use Rattle.st_strap.specs.Order.{earlier_fault, both_of, reading_map, next_reading}
pub use Rattle.st_mnemonic.specs.Text.{begins_with, behind_word, group, behind_group, stop, ends_with, operation_text}
unfoldable pub use Rattle.st_mnemonic.specs.Text.{statement_text, group_length, fields_of}
pub use Rattle.st_mnemonic.specs.Forming.{is_form, is_behind_groups, form_with_number}
unfoldable pub use Rattle.st_mnemonic.specs.Forming.{behind_description, progressive_forms, open_group, description_in, form_number, may_have_form, form_with_progress}
pub use Rattle.st_strap.specs.Reading.{field_front, index_part, reading_without_index, number_or_fault, with_selected, index_selector, last_open, number_expr}
unfoldable pub use Rattle.st_strap.specs.Reading.{index_fields, index_parts, index_field, index_named, spot, expression, number_result, plain_number, signed_of, signed_number, index_start}
pub use Rattle.st_strap.specs.Saying.{statement_of, misnames}
unfoldable pub use Rattle.st_strap.specs.Saying.{alone, two, followed, with_number, index_and_list, operand_spot, without_fields, with_fields, is_misnamed, statement_in_form, reading_of_operation, clean_statement_of}
pub use Rattle.st_mnemonic.specs.declared.form.Form.{Form}
pub use Rattle.st_mnemonic.specs.declared.operations.Operation.{Operation}
pub use Rattle.st_strap.specs.Statements.{Statement}
pub use Rattle.st_mnemonic.specs.Fields.{texts}
pub use Rattle.st_mnemonic.specs.declared.field.FieldText.{FieldText}
pub use Rattle.st_strap.specs.declared.statement.Statement.TheVariants.{Sum, Data, Half, Branch, Vfl, Connect, SetLocation, End, Refill, Floating, Move, BitBranch, IndBranch, StoreCounter, Transfer, IndexWord, Synonym, Reserve}
pub use Rattle.st_text.specs.Pieces.{lacks, pieces_of, onto_first}
pub use Rattle.st_mnemonic.specs.Table.{index_operation, field_operation, connective_at}
unfoldable pub use Rattle.st_mnemonic.specs.Table.{operation_of_word, other_operations, index_operations, field_operations, negated_operation, connective, connective_kinds, truth_tables}
pub use Rattle.st_mnemonic.specs.Describing.{plain_form, some_number, in_pieces, default_form, usual_byte}
unfoldable pub use Rattle.st_mnemonic.specs.Describing.{modes, number_to, in_mode, description_of, may_have, described_form, floating_number}
pub use Rattle.st_mnemonic.proofs.Digits.{decimal-digits, reading-decimal, digits-lack, low_other, high_other, lacks-ends, lacks-begins, lacks-parted, clean-is, IsOther, unequal, AreDigits}
pub use Rattle.st_bits.specs.declared.operations.HalfOp.TheVariants.{Lvi, VPlusI, Ex}
pub use Rattle.st_bits.specs.declared.operations.VflOp.TheVariants.{L, Add, St, MAdd1, Mul, K, Div}
pub use Rattle.st_mnemonic.specs.declared.descriptions.Description.{Description}
pub use Rattle.st_mnemonic.specs.declared.descriptions.Description.TheVariants.{InForm, Absent}
pub use Rattle.st_expr.specs.Name.{is_name_byte, is_name, is_system_word}
