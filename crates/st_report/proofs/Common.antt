-- The names that proofs of this crate use, passed on from one place. Declares nothing.
pub use Rattle.std.proofs.Common.{◌≡◌, ℕ, List, [], ◌++◌, refl, append_assoc, ◌+◌, ◌*◌, ◌/◌, ◌%◌, ◌^◌, ◌<◌, ◌≤◌, ◌∷◌, get_or, drop, length, sym, ap, ◌∙◌, decimal, arith, zero, suc, true, inl, inr, lit<, ◌-◌, length-drop, length-append, codes}
pub use Rattle.std.proofs.lemmas.List.{append-nil, drop_all, drop-append-le, drop-drop}
pub use Rattle.std.proofs.lemmas.Fmt.{decimal_digit, decimal_step, length-decimal-le}
unfoldable pub use Rattle.std.specs.Fmt.{digits}
pub use Rattle.st_text.specs.Bytes.{lf}
pub use Rattle.st_text.specs.Numerals.{half_address}
