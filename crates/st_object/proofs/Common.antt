-- The names that proofs of this crate use, passed on from one place. Declares nothing.
pub use Rattle.std.proofs.Common.{◌≡◌, ◌≤◌, ◌<◌, ◌+◌, ◌==◌, ℕ, suc, Bool, true, false, List, [], ◌∷◌, ◌++◌, length, take, Option, Some, None, is_some, Result, Ok, Err, if◌then◌else◌, refl, ap, sym, subst, ◌∙◌, append_assoc, append-nil, arith, rules, ◌-◌, zero, drop, IfOk, IfErr, not, unwrap_or, ◌^◌, nat_lt, get_or, replicate, length-append, lit<, ◌&&◌, ◌||◌, map, ◌*◌, ◌%◌, filter, IsTrue, MatchOption, IfSome, decimal, ◌/◌}
pub use Rattle.std.specs.List.{flat_map, AllPass, All, list_all}
pub use Rattle.std.specs.Option.{option_map_or, option_map, option_and_then}
pub use Rattle.std.proofs.lemmas.Bool.{eqb-true, cond_both, or_right, eq-eqb}
pub use Rattle.std.proofs.lemmas.Bool.Decides.{nat_tests}
pub use Rattle.std.proofs.lemmas.List.{take-append-drop, take-take, length-map, length-replicate, map-append, get_or-take, length-take-le, replicate_more, take_all}
pub use Rattle.std.proofs.lemmas.List.Concat.{flat_map-append}
pub use Rattle.std.proofs.lemmas.Grind.{common_steps}
pub use Rattle.std.proofs.lemmas.List.Elements.{All-append, All-replicate, filter-append, All-head, All-tail}
pub use Rattle.std.specs.Cmp.Lexicographic.{same_text, other_text}
pub use Rattle.std.specs.Prelude.{slice_get}
pub use Rattle.std.proofs.lemmas.List.Folds.{list_all-append, flat_map-map}
pub use Rattle.st_text.specs.Bytes.{lf, line_end}
pub use Rattle.st_text.specs.Pieces.{pieces_of, lacks, words}
pub use Rattle.st_object.specs.Lines.{object_text_of, word_lines}
unfoldable pub use Rattle.st_object.specs.Lines.{line_text}
pub use Rattle.st_object.specs.Draft.{Draft, draft_at_start, IsDraft, is_empty, lines_read, kind_lines, has_line, with_item, may_hold, start_lines}
unfoldable pub use Rattle.st_object.specs.Draft.{is_whole, draft_with_value, has_place}
pub use Rattle.st_object.specs.Object.{Program, IsProgram, AreWords, object_text, program_of, draft_with_line, read_from, lines_in, text_lines, BeginsObjectText, IsBadLine, object_lines, filled_up, IsReading}
unfoldable pub use Rattle.st_object.specs.Object.{read_text}
pub use Rattle.st_object.specs.declared.items.Item.{Item}
pub use Rattle.st_text.proofs.PieceLemmas.{first_piece}
pub use Rattle.st_object.specs.Answers.{Gives, NamesBadLine, Explains}
pub use Rattle.st_object.specs.declared.reading.ObjectError.{ObjectError}
pub use Rattle.st_card.specs.Limits.{IsWithinLimits, AreDelays, is_tick}
pub use Rattle.st_card.proofs.LimitLemmas.{others-within, keyword-kept, numbers-short}
pub use Rattle.st_card.specs.declared.keywords.Once.TheVariants.{Budget}
pub use Rattle.st_card.specs.Controls.{is_in_range, Asked, with_control, nothing_asked}
pub use Rattle.st_object.specs.Order.{order, row_of_kind, kinds_before, kinds_behind, kind_of_line, is_met, are_met, none_stands}
pub use Rattle.st_object.specs.declared.items.Kind.{Kind}
pub use Rattle.st_bits.specs.Storage.{words_of_storage, words_of_storage_is}
pub use Rattle.st_card.specs.Keywords.{keyword_of, numbers_of, keyword_order, control_of, card_numbers, control_in, place, keyword_text, card_number}
pub use Rattle.st_card.specs.declared.keywords.Control.{Control}
pub use Rattle.st_card.proofs.Requests.{then-is, then-unlisted, asked_then, then-last, few-asked, control-parts, asked-keyword, Steps, asked_before, steps-of, all-steps, is-word}
pub use Rattle.st_object.specs.declared.items.Item.TheVariants.{Object, Start, Word, Fin, Ask}
pub use Rattle.st_card.specs.Written.{asked_by, where_asked, requests, IsShort, text_of_lines, unless_zero}
unfoldable pub use Rattle.st_card.specs.Written.{control_line}
pub use Rattle.st_object.specs.Meaning.{item_in, hex_number, kind_of_word, item_behind, item_loosely, parts_at, IsItem, short_number, two_numbers, hex_digit_in, word_in}
pub use Rattle.st_card.specs.declared.keywords.Keyword.{Keyword}
pub use Rattle.st_card.specs.Cards.{columns}
pub use Rattle.st_card.specs.declared.keywords.Number.TheVariants.{Delays}
pub use Rattle.st_card.specs.declared.keywords.ControlForm.TheVariants.{ObjectLine}
