-- The names that proofs of this crate use, passed on from one place. Declares nothing.
pub use Rattle.std.proofs.Common.{◌≡◌, ℕ, suc, ◌+◌, ◌-◌, ◌*◌, ◌%◌, ◌^◌, ◌<◌, ◌≤◌, Bool, true, false, cond, ltb, Decides, refl, sym, ◌∙◌, ap, arith, inl, inr, add-zero, min, max, bit_and, bit_or, zero, ◌/◌, List, ◌∷◌, sum, subst}
pub use Rattle.std.specs.Int.{bit_at, w128, bit_not, w64}
pub use Rattle.std.specs.Int.Count.{count_leading_zeros}
unfoldable pub use Rattle.std.specs.Int.Count.{ones}
pub use Rattle.std.proofs.lemmas.Bool.{cases_lt, cases_order}
pub use Rattle.std.proofs.lemmas.Bool.Decides.{nat_tests, Decides-like, Decides-ltb, Decides-eqb, Decides-below_or, same_from_decides, Decides-at}
pub use Rattle.std.proofs.lemmas.Nat.{pow_pos, shr_high, leading_top, leading_length, shr_split, mod-pow-add, ones_cat, mod_below, and_mask, shr-shr, ones-le, or_lt, and_le_l}
pub use Rattle.std.proofs.lemmas.Nat.Bits.{bit_at-lt, bit_at-zero, bit_at_above, bit_at_cat_low, bit_at_cat_high, bit_at_ones, bit_at_ones_above, bit_at_and, bit_at_or, bit_at_not, ones_shr}
pub use Rattle.std.proofs.Math.Nat.{pow-suc, mod-eq_of_lt}
pub use Rattle.std.proofs.Math.Pow.{pow_mono}
pub use Rattle.st_conn.specs.Connective.{is_covered, inserted_at, bit_past, truth_bit, leading_zeros, result_at}
unfoldable pub use Rattle.st_conn.specs.Connective.{by_weight, is_one_lost, connective_bits, accumulator_bits}
pub use Rattle.st_bits.specs.Bits.{num}
unfoldable pub use Rattle.st_bits.specs.Bits.{bits}
pub use Rattle.st_bits.proofs.BitLists.{num-bits}
