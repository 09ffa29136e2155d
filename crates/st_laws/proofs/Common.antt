-- The names that proofs of this crate use, passed on from one place. Declares nothing.
pub use Rattle.std.proofs.Common.{◌≡◌, ◌≤◌, ◌<◌, ◌+◌, ◌-◌, ◌*◌, ◌/◌, ◌%◌, ◌^◌, ◌==◌, ◌&&◌, ◌||◌, ℕ, zero, suc, Bool, true, false, nat_le, nat_lt, List, [], ◌∷◌, length, take, get_or, sum, decimal, None, if◌then◌else◌, refl, ap, sym, ◌∙◌, arith, rules, lit<, map, not, subst, ◌++◌, codes, Ok, append_assoc, append-nil, length-append, replicate, ℤ, Some, unwrap_or}
pub use Rattle.std.specs.List.{list_all, All, AllPass}
pub use Rattle.std.proofs.lemmas.Bool.Decides.{nat_tests}
pub use Rattle.std.proofs.lemmas.Nat.{mod-mul-add, div-mul-add}
pub use Rattle.std.proofs.lemmas.List.Elements.{All-nil, All-cons, All-append, All-head, All-tail}
pub use Rattle.st_bits.specs.Storage.{words_of_storage, words_of_storage_is}
pub use Rattle.st_dec.specs.DigitLists.{number_of_bytes}
unfoldable pub use Rattle.st_dec.specs.DigitLists.{bytes, codes_value}
pub use Rattle.st_dec.proofs.DigitLemmas.{value_of-first, joined-decimal, digit_and_rest}
pub use Rattle.st_card.specs.Limits.{is_part, IsWithinLimits, is_tick}
pub use Rattle.st_asm.specs.Checks.{extent}
unfoldable pub use Rattle.st_asm.specs.Checks.{in_storage, in_range, fits, on_boundary, value_fault}
pub use Rattle.st_asm.specs.Numbers.{capacity, digits_of_form, magnitude, sign_byte_of}
unfoldable pub use Rattle.st_asm.specs.Numbers.{packed_digits, holds}
pub use Rattle.st_asm.proofs.FieldLemmas.{digit-below, holds-below}
pub use Rattle.st_laws.specs.EmittedNumbers.{IsHeld, IsRead, emitted_shape, field_of_number}
pub use Rattle.st_strap.specs.Saying.{statement_of}
pub use Rattle.st_strap.specs.Statements.{Statement}
pub use Rattle.st_strap.specs.declared.statement.Statement.TheVariants.{End, Half, Branch, Vfl, Connect}
pub use Rattle.st_asm.specs.Forming.{form_pass, is_end}
pub use Rattle.st_dis.proofs.Said.{spoken_lines, silent_lines, AreRead}
pub use Rattle.st_dis.proofs.FormPass.{job_cards, found_in_job, job-formed, IsOpen}
pub use Rattle.st_dis.proofs.StatementSteps.{stand, end-steps, Stand, Steps, faultless-elsewhere, in-storage}
pub use Rattle.st_gen.specs.Deck.{next_number, number_after, below, draw, index, word_text, bit_text, small_value, field_length, byte_field_length, field_operands, statement, form_after, after_cards, drawn_cards, closing_cards, made_deck}
unfoldable pub use Rattle.st_gen.specs.Deck.{card, control, delay_cards}
pub use Rattle.st_gen.proofs.Drawn.{drawn-cases}
