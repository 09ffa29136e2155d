-- The names that proofs of this crate use, passed on from one place. Declares nothing.
pub use Rattle.std.proofs.Common.{◌≡◌, ◌≢◌, ℕ, ◌<◌, ◌^◌, List, length, sym, ◌∙◌, subst, arith, inl, inr, get_or, zero, suc, ◌+◌, ◌-◌, ◌/◌, ◌%◌, ◌≤◌, Bool, true, false, ◌==◌, ◌&&◌, min, None, Some, refl, ap, bit_and, ◌*◌, [], ◌∷◌, zero-add, max, bit_or, w64}
pub use Rattle.std.proofs.Math.ListN.{set}
pub use Rattle.std.proofs.lemmas.List.{length-set, get_or-set_same, get_or-set_other}
pub use Rattle.std.proofs.lemmas.Bool.Decides.{eqb_tells, nat_tests, leb_tells}
pub use Rattle.std.specs.Int.{bit_at}
pub use Rattle.std.proofs.lemmas.Nat.{leading_top, le-div, div_below, pow_pos, or_lt, and_le_l, mul-le}
pub use Rattle.std.proofs.lemmas.Nat.Bits.{bit_at_and, bit_at-lt, bit_at_above, bit_at-zero, bit_at_or, bit_at_not, bit_at_cat_low, bit_at_cat_high, bit_at_lowest, same_from_bits_below}
pub use Rattle.std.proofs.Math.Nat.{pow-succ', mod-eq_of_lt}
pub use Rattle.st_bits.specs.Registers.{fixed_from}
unfoldable pub use Rattle.st_bits.specs.Registers.{register_word}
pub use Rattle.st_bits.specs.Storage.{words_of_storage_is}
unfoldable pub use Rattle.st_bits.specs.Storage.{words_of_storage}
pub use Rattle.st_bits.proofs.RegisterLaws.{fixed-twice, fixed_below, fixed-zero, fixed-index}
pub use Rattle.st_state.specs.Machine.{Machine, IsMachine, with_word, opening_state, word, state_with_store, state_with_bits}
pub use Rattle.st_bits.specs.Bits.{part, all_bits, put, words_of, bits}
pub use Rattle.st_state.specs.Interrupts.{is_pending, turned_bit}
unfoldable pub use Rattle.st_state.specs.Interrupts.{first_from, indicator_word}
pub use Rattle.st_state.specs.View.{machine}
