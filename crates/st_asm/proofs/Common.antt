-- The names that proofs of this crate use, passed on from one place. Declares nothing.
pub use Rattle.std.proofs.Common.{◌≡◌, ◌≤◌, ◌<◌, ◌+◌, ◌*◌, ◌==◌, ◌^◌, ◌&&◌, ℕ, ℤ, pos, negsuc, Bool, true, false, not, List, [], ◌∷◌, None, nat_lt, nat_le, length, is_some, unsigned_abs, refl, arith, Option, Some, Result, Ok, Err, All, if◌then◌else◌, mod-eq_of_lt, ◌-◌, ◌/◌, ◌%◌, ◌||◌, zero, suc, subst, ap, sym, ◌∙◌, get_or, ◌++◌, map, replicate, unwrap_or, append_assoc, append-nil, length-append, lit≤, lit<, take, drop, ◌⊎◌, inl, inr, cond, rules}
pub use Rattle.std.proofs.lemmas.List.Elements.{All-cons, All-nil, All-head, All-tail, All-push, All-append, All-weaker, All-same}
pub use Rattle.std.specs.Bool.{IsTrue, IsFalse}
pub use Rattle.std.specs.List.{zip, list_all, cons_option}
pub use Rattle.std.proofs.lemmas.List.{length-take, get_or-take, length-drop}
pub use Rattle.std.specs.Option.{IfSome, option_or, option_map}
pub use Rattle.std.specs.Result.{IfOk, result_err, IfErr}
pub use Rattle.st_card.specs.Cards.{first_fault, text_in, card_at, cards_from, cards_of, IsCardOf}
pub use Rattle.st_card.specs.declared.faults.Fault.{Fault}
pub use Rattle.st_card.specs.declared.faults.Fault.TheVariants.{NameTwice, UndefinedSymbol, SymbolNotEarlier, TooManyNames, CardAfterEnd, BadControlCard, NoEnd}
pub use Rattle.st_strap.specs.Statements.{Statement}
pub use Rattle.st_asm.specs.Naming.{Named, is_name_taken, is_known, is_earlier, naming_at_start, place_of_card, symbol_of, named_in, AreNamesKept}
unfoldable pub use Rattle.st_asm.specs.Naming.{name_fault, name_step, name_card, name_pass}
pub use Rattle.st_asm.specs.Symbols.{table, has_name, is_defined, accepts, accepts_atom}
unfoldable pub use Rattle.st_asm.specs.Symbols.{names_of}
pub use Rattle.st_asm.specs.declared.line.ReadCard.{ReadCard}
pub use Rattle.st_asm.specs.Checks.{is_address, on_boundary, extent}
unfoldable pub use Rattle.st_asm.specs.Checks.{in_range, fits, in_storage, value_fault}
pub use Rattle.st_asm.specs.Places.{placing_of, length_in, place_in}
pub use Rattle.st_asm.specs.declared.places.Placing.{Placing}
pub use Rattle.st_asm.specs.declared.places.Placing.TheVariants.{Emits, Passes, Sets, Names, Ends}
pub use Rattle.st_card.specs.declared.cards.Card.{Card}
pub use Rattle.st_card.specs.declared.cards.CardKind.{CardKind}
pub use Rattle.st_card.specs.declared.cards.CardKind.TheVariants.{Comment, Control}
pub use Rattle.st_asm.specs.Pass.{Refusal, pass, onward, unless_faulty, pass_then}
pub use Rattle.st_asm.specs.Forming.{Found, first_fault_of, before_end, form_kind, found_at_start, with_end, with_statement, with_control, found_in}
unfoldable pub use Rattle.st_asm.specs.Forming.{form_statement, form_card, form_pass, form_control}
pub use Rattle.st_asm.specs.Numbers.{capacity, magnitude_bits_of, magnitude, sign_byte_of}
unfoldable pub use Rattle.st_asm.specs.Numbers.{holds, packed_digits, field_bits_of}
pub use Rattle.st_strap.specs.WellFormed.{IsNumberForm, IsWellFormedIfAny}
pub use Rattle.st_asm.specs.Valuing.{Emitted, emitting_at_start, value_saying, emitted_in}
unfoldable pub use Rattle.st_asm.specs.Valuing.{image_with, value_statement, value_card, value_pass}
pub use Rattle.st_bits.specs.Storage.{IsImage, words_of_storage_is}
pub use Rattle.st_card.specs.Controls.{Asked, asked_with_card, is_in_range}
pub use Rattle.st_strap.specs.Order.{next_reading, reading_map}
pub use Rattle.st_strap.specs.Saying.{statement_of}
pub use Rattle.st_strap.proofs.StatementLemmas.{read-is, read-named}
pub use Rattle.st_asm.specs.Lines.{name_field, statement_field, silent_line, saying}
unfoldable pub use Rattle.st_asm.specs.Lines.{name_in}
pub use Rattle.st_asm.specs.Assembly.{together, Assembly}
unfoldable pub use Rattle.st_asm.specs.Assembly.{with_defaults, assembly}
pub use Rattle.st_asm.specs.Sound.{IsLocation, IsSymbol, IsAssemblySound}
pub use Rattle.st_asm.specs.Kept.{IsReadCard, IsDeck, IsNamed, IsSoundLayout}
pub use Rattle.st_expr.specs.Value.{Defines, atom_value, signed_value, plus, sum_of_terms}
