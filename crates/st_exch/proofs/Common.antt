-- The names that proofs of this crate use, passed on from one place. Declares nothing.
pub use Rattle.std.proofs.Common.{◌≡◌, ℕ, zero, suc, ◌+◌, ◌<◌, ◌^◌, List, [], ◌∷◌, length, take, drop, refl, arith, ◌-◌, ◌==◌, ◌&&◌, Bool, true, false, map, ◌∙◌, nat_le, if◌then◌else◌, ◌≤◌, ◌||◌, ◌++◌, get_or, filter, sym, ap, All, subst, ◌*◌, ◌%◌}
pub use Rattle.std.proofs.lemmas.List.Elements.{All-nil, All-cons, All-head, All-tail, filter-append}
pub use Rattle.std.specs.List.{flat_map, suffix_len}
pub use Rattle.std.proofs.lemmas.List.{map-append, take_all, take_more}
pub use Rattle.st_card.specs.Cards.{cards_of, text_in, IsCardOf}
pub use Rattle.st_card.specs.declared.cards.Card.{Card}
pub use Rattle.st_exch.specs.Reader.{column_of_card, is_comment, is_statement, has_statement}
unfoldable pub use Rattle.st_exch.specs.Reader.{word_from, card_words, behind_statements, texts_in, reader_cards}
pub use Rattle.st_text.specs.Bytes.{is_printable}
pub use Rattle.st_exch.specs.Printer.{bytes_of, character}
unfoldable pub use Rattle.st_exch.specs.Printer.{characters_of, line_of_words}
