-- The names that proofs of this crate use, passed on from one place. Declares nothing.
pub use Rattle.std.proofs.Common.{◌≡◌, ◌≢◌, ◌≤◌, ◌<◌, ◌-◌, ◌==◌, ℕ, List, length, take, slice_index, arith, ◌+◌, [], ◌∷◌, ◌++◌, drop, ap, sym, ◌∙◌, append_assoc, length-append, suc, zero, ◌/◌, ◌%◌, refl, get_or, drop-cons, add-one, ◌*◌, ◌&&◌, Bool, true, min, false, not, IsTrue, subst, if◌then◌else◌, cond, Some, rules, decimal, codes}
pub use Rattle.std.specs.List.{suffix_len, list_all}
pub use Rattle.std.proofs.lemmas.List.{take-take, drop-drop, length-take-le, take_more, take-append-drop, append-nil}
pub use Rattle.std.proofs.Math.Seq.{take-length, take-append_seam, drop-append_seam}
pub use Rattle.std.specs.Char.{is_ascii_digit}
pub use Rattle.st_text.specs.Blanks.{without_end_blanks, without_front_blanks}
pub use Rattle.st_text.specs.Pieces.{IsFront, IsBehind, onto_first, pieces_of, lacks, words}
pub use Rattle.st_text.specs.Numerals.{hex_digit, half_address}
unfoldable pub use Rattle.st_text.specs.Numerals.{hex_text}
pub use Rattle.st_text.specs.Number.{value_after, digits_value}
