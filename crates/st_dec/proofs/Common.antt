-- The names that proofs of this crate use, passed on from one place. Declares nothing.
pub use Rattle.std.proofs.Common.{◌≡◌, ℕ, zero, suc, ◌+◌, ◌*◌, ◌/◌, ◌%◌, ◌^◌, ◌<◌, ◌≤◌, List, [], ◌∷◌, length, refl, sym, arith, ◌++◌, map, take, drop, replicate, ◌||◌, ap, ltb, leb, ◌-◌, subst, ◌∙◌, add-one, lit≤, lit<, Bool, true, false, if◌then◌else◌, rules}
pub use Rattle.std.proofs.Math.Nat.{pow-suc, pow-succ', div-div-eq-div-mul, mod-eq_of_lt, div-eq_of_lt, mul-le-mul_right, mul-le-mul_left, mod-lt, pow-le-pow_right}
pub use Rattle.std.proofs.Math.Pow.{pow_pos, pow_mono, mod-mod-pow}
pub use Rattle.std.proofs.lemmas.Nat.{pow-add, le-div}
pub use Rattle.std.proofs.lemmas.List.{length-map, length-append, length-replicate, length-take, length-drop}
pub use native.Mathlib.Numerals.{unary_clauses}
pub use Rattle.st_field.specs.Digits.{code_at}
unfoldable pub use Rattle.st_field.specs.Digits.{value_of_digits, digits_of}
unfoldable pub use Rattle.st_dec.specs.DigitLists.{bytes, number_of_bytes, codes_value, decimal}
pub use Rattle.st_dec.specs.DecimalOperand.{any_code, codes_with_zones, IsDecimalShape, digit_count, field_value, last_digit_place, digit_bytes, codes_at_place, codes, field_codes}
unfoldable pub use Rattle.st_dec.specs.DecimalOperand.{bytes_with_codes}
pub use Rattle.st_field.proofs.DigitLemmas.{value_of-bound, power_above_zero}
pub use Rattle.st_field.specs.declared.fields.Shape.{Shape}
pub use Rattle.st_field.specs.Fields.{magnitude_bits, HasRoom, zone_of}
