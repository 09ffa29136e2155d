-- The names that proofs of this crate use, passed on from one place. Declares nothing.
pub use Rattle.std.proofs.Common.{◌≡◌, ◌≤◌, length, Ok, ◌<◌, ◌==◌, ℕ, Bool, true, false, not, nat_lt, List, [], ◌∷◌, ◌++◌, Option, Some, None, if◌then◌else◌, map, filter, decimal, refl, ap, sym, subst, ◌∙◌, append_assoc, length-append, arith, ◌+◌, ◌-◌, take, drop, get_or, zero, suc, min, ◌*◌, ◌/◌, ◌%◌, ◌^◌, Result, Err, is_none, append-nil, codes, replicate, ◌&&◌, nat_le, slice_index_or, ℤ, ◌||◌, unwrap_or, ◌⊎◌, inl, inr, rules}
pub use Rattle.std.proofs.lemmas.Bool.Decides.{nat_tests}
pub use Rattle.std.proofs.lemmas.List.{take_all, map-append, take_at, length-map}
pub use Rattle.std.proofs.lemmas.Fmt.{length-decimal-le, decimal_digit}
pub use Rattle.std.proofs.lemmas.Bool.{leb-true, and_parts, and_from}
pub use Rattle.std.specs.List.{flat_map, All, list_all, zip}
pub use Rattle.std.proofs.Math.Seq.{drop-append_seam, get_or-append_seam, set-append_seam}
pub use Rattle.std.proofs.lemmas.List.Elements.{All-nil, All-cons, All-head, All-tail, All-append, All-replicate}
pub use Rattle.std.specs.Prelude.{slice_index}
pub use Rattle.st_asm.specs.Assembly.{Assembly, together}
unfoldable pub use Rattle.st_asm.specs.Assembly.{assembly, with_defaults}
pub use Rattle.st_object.specs.Object.{Program, IsProgram, AreWords}
pub use Rattle.st_dis.specs.Deck.{control_cards, statement_card, location_statement, location_cards, word_cards, deck_cards, end_text}
unfoldable pub use Rattle.st_dis.specs.Deck.{deck_text, card_count, cards_of_word}
pub use Rattle.st_card.specs.Keywords.{keyword_text, card_number, numbers_before, card_numbers, word, keyword_order}
pub use Rattle.st_card.specs.Written.{IsShort, IsShortControl, asked_by, text_of_lines, requests}
unfoldable pub use Rattle.st_card.specs.Written.{control_line}
pub use Rattle.st_card.specs.declared.keywords.Keyword.{Keyword}
pub use Rattle.st_card.specs.declared.keywords.Control.{Control}
pub use Rattle.st_card.specs.declared.keywords.ControlForm.TheVariants.{Card}
pub use Rattle.st_text.specs.Pieces.{pieces_of, lacks, words}
pub use Rattle.st_card.specs.Cards.{columns, first_fault, fault_of, kind_of, card_at, cards_from, cards_of, text_in, is_column_1, first_column, is_blank}
pub use Rattle.st_card.specs.Controls.{Asked, nothing_asked, with_keyword, with_card, with_words, asked_with_card}
pub use Rattle.st_card.specs.Limits.{IsWithinLimits}
pub use Rattle.st_card.proofs.Requests.{keyword-found, is-word, Steps, steps-of, all-steps, requests-short, few-asked}
pub use Rattle.st_strap.proofs.PlaceCards.{parted-once, set-read, end-read}
pub use Rattle.st_dis.specs.Read.{CardsLead, bits_of_length, emitted_behind, emitted_together}
pub use Rattle.st_dis.specs.Spelling.{number_text, says, word_spelling, half_spelling, statements_by, is_emitted}
unfoldable pub use Rattle.st_dis.specs.Spelling.{statements_of, spelling_of}
pub use Rattle.st_text.specs.Bytes.{lf, is_printable}
pub use Rattle.st_card.specs.declared.faults.Fault.{Fault}
pub use Rattle.st_card.specs.declared.faults.Fault.TheVariants.{NotAscii, CardTooLong, BadName, TooManyCards, UnknownOperation, BadControlCard, NameTwice, UndefinedSymbol, SymbolNotEarlier, TooManyNames, AddressOutOfRange, ValueDoesNotFit, NotOnABoundary, LocationOutOfStorage}
pub use Rattle.st_bits.specs.Storage.{words_of_storage_is, words_of_storage}
pub use Rattle.st_strap.specs.Reading.{number_expr}
pub use Rattle.st_strap.specs.Saying.{statement_of, reading_of_operation}
unfoldable pub use Rattle.st_strap.specs.Saying.{is_misnamed, clean_statement_of}
pub use Rattle.st_strap.specs.Statements.{Statement}
pub use Rattle.st_strap.specs.declared.statement.Statement.TheVariants.{Half, Sum, Refill, Branch, Floating, Vfl, Connect, Move, BitBranch, IndBranch, StoreCounter, Transfer, Data, IndexWord, Synonym, SetLocation, Reserve, End}
pub use Rattle.st_strap.proofs.NumberCards.{word_form, data-read}
pub use Rattle.st_asm.specs.Symbols.{is_defined, table, has_name}
unfoldable pub use Rattle.st_asm.specs.Symbols.{accepts_all, names_of}
unfoldable pub use Rattle.st_asm.specs.Values.{values_of, value_modulo}
pub use Rattle.st_asm.specs.Places.{placing_of, length_in, needs_earlier, next_multiple, place_in, behind_in}
pub use Rattle.st_asm.specs.Naming.{naming_at_start, Named, is_earlier, place_of_card, location_behind}
unfoldable pub use Rattle.st_asm.specs.Naming.{name_fault, name_step, name_card, name_pass}
pub use Rattle.st_asm.specs.Checks.{extent}
unfoldable pub use Rattle.st_asm.specs.Checks.{value_fault, in_range, fits, on_boundary, in_storage}
pub use Rattle.st_asm.specs.Emitting.{half_word_bits}
unfoldable pub use Rattle.st_asm.specs.Emitting.{bits_of}
pub use Rattle.st_asm.specs.Forming.{Found, found_at_start, first_fault_of, is_end, with_statement, with_control, form_kind, with_end}
unfoldable pub use Rattle.st_asm.specs.Forming.{form_pass, form_control, form_statement, form_card}
pub use Rattle.st_asm.specs.Alone.{emitted_if_read}
unfoldable pub use Rattle.st_asm.specs.Alone.{emitted_alone, emitted_by}
pub use Rattle.st_asm.specs.declared.alone.EmittedBits.{EmittedBits}
pub use Rattle.st_dis.specs.Texts.{index_field_text, has_index, index_part_text, half_field, bit_field, second_field, number_field, offset_field, half_text, branch_text, description, operand_text}
unfoldable pub use Rattle.st_dis.specs.Texts.{listed_fields, instruction_text}
pub use Rattle.st_asm.specs.Pass.{Refusal, onward, pass, pass_then, unless_faulty}
pub use Rattle.st_asm.specs.Lines.{silent_line, saying}
unfoldable pub use Rattle.st_asm.specs.Lines.{name_field, statement_field, name_in}
pub use Rattle.st_text.specs.Numerals.{half_address, bit_address, flag, place}
pub use Rattle.st_asm.specs.Valuing.{Emitted, with_emitted}
unfoldable pub use Rattle.st_asm.specs.Valuing.{value_statement, value_card, value_pass, image_with}
pub use Rattle.st_format.specs.Halves.{is_full}
pub use Rattle.st_format.specs.Formats.{instruction_of, is_valid}
pub use Rattle.st_format.specs.declared.instruction.Instr.{Instr}
