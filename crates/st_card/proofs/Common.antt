-- The names that proofs of this crate use, passed on from one place. Declares nothing.
pub use Rattle.std.proofs.Common.{◌≡◌, ◌≤◌, ◌<◌, ◌+◌, ◌-◌, ℕ, List, [], ◌∷◌, ◌++◌, length, take, All, refl, ap, sym, subst, ◌∙◌, arith, append_assoc, append-nil, ◌&&◌, Bool, true, false, nat_le, nat_lt, Option, Some, None, if◌then◌else◌, get_or, lit≤, length-append, suc, zero, map, Result, Ok, Err, OnOk, ◌==◌, ◌⊎◌, inl, inr, ◌||◌, not, min, ◌*◌}
pub use Rattle.std.proofs.lemmas.List.{take_all, map-append, get_or_append_left, get_or_at, get_or_default, length-map, take_min, take-take, length-take}
pub use Rattle.std.proofs.Math.Seq.{take-append_seam, get_or-append_seam}
pub use Rattle.std.specs.Str.Lines.{strip_carriage_return}
pub use Rattle.std.proofs.lemmas.List.Elements.{All-push, All-nil, All-append, All-cons, All-take}
pub use Rattle.std.specs.List.{AllPass, flat_map, list_all}
pub use Rattle.std.specs.Option.{option_map_or, option_map}
pub use Rattle.std.specs.List.Sorted.{IsStrictlyIncreasing, IsNonDecreasingBy}
pub use Rattle.std.proofs.lemmas.Option.{slice_get-get_or}
pub use Rattle.std.specs.Prelude.{slice_get, slice_index}
pub use Rattle.std.proofs.lemmas.Bool.Decides.{nat_tests}
pub use Rattle.st_text.specs.Pieces.{pieces_of, IsFront, IsBehind, words, lacks, onto_first}
pub use Rattle.st_card.specs.Cards.{card_at, cards_from, IsCardOf, columns, cards_of, first_column, is_blank, kind_of, fault_of, text_in}
pub use Rattle.st_card.specs.declared.cards.Card.{Card}
pub use Rattle.st_card.specs.Controls.{Asked, nothing_asked, is_in_range, last_passes, number_of, with_number, is_marked, with_mark, with_delays, with_signal, with_dump, with_snap, with_once, with_control, with_words}
pub use Rattle.st_card.specs.Keywords.{keyword_in, keyword_order, numbers_before, card_number, card_numbers, most, place, keyword_of, keyword_text, numbers_of, control_of}
pub use Rattle.st_text.specs.Number.{number_if_good, is_number, digits_value, reading, is_filled}
pub use Rattle.st_card.specs.Limits.{is_signal, is_part, is_tick, AreDelays, IsWithinLimits, AreSignals, AreDumps, AreSnaps}
pub use Rattle.st_card.specs.declared.control_cards.Signal.{Signal}
pub use Rattle.st_card.specs.declared.keywords.Keyword.{Keyword}
pub use Rattle.st_card.specs.declared.keywords.Keyword.TheVariants.{Listing, Mark, Number, Pair, Once}
pub use Rattle.st_card.specs.declared.keywords.Pair.TheVariants.{Signals, Dump}
pub use Rattle.st_card.specs.declared.keywords.Number.TheVariants.{Delays, Snap}
pub use Rattle.st_card.specs.Written.{text_of_lines, IsShort, where_asked, unless_zero, asked_by, requests, IsShortControl, control_line}
pub use Rattle.st_text.proofs.FrontLemmas.{front_of_front, front_of_whole, front_itself, front_taken, behind_whole, behind_behind, behind_itself}
