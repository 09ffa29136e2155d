-- The names that proofs of this crate use, passed on from one place. Declares nothing.
pub use Rattle.std.proofs.Common.{◌≡◌, ℕ, zero, suc, ◌+◌, ◌-◌, ◌*◌, ◌/◌, ◌%◌, ◌^◌, ◌<◌, ◌≤◌, List, [], ◌∷◌, ◌++◌, length, take, drop, refl, sym, ◌∙◌, ap, subst, arith, zero-add, add_assoc, mul_comm, length-append, append_assoc, bit_and, bit_or, add-zero, get_or, ◌≢◌}
pub use Rattle.std.proofs.lemmas.List.{take_at, drop_at, append-nil, take-append-le, drop-append-le, take_all, drop_all, length-drop, get_or-set_other}
pub use Rattle.std.proofs.lemmas.Nat.{shr-shr, mod-pow-add, pow-add, shr_high, shr_split, mod_below, pow_pos, mul-add-lt, field_of, shl-shr, and_block, or_block, or_shifted, and_mask, shl_whole, shr_below}
pub use Rattle.std.proofs.lemmas.Nat.Bits.{bit_at_cat_low, ones_shr}
pub use Rattle.std.proofs.Math.Nat.{mod-eq_of_lt}
pub use Rattle.std.proofs.Math.ListN.{set}
pub use Rattle.st_bits.specs.Bits.{part, with_part}
unfoldable pub use Rattle.st_bits.specs.Bits.{bits, num, field, put, all_bits, words_of}
