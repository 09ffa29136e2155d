-- The names that proofs of this crate use, passed on from one place. Declares nothing.
pub use Rattle.std.proofs.Common.{◌≡◌, ◌||◌, ℕ, Bool, true, false, nat_eq, cond, List, [], ◌∷◌, Option, Some, None, is_none, refl, ap, sym, ◌∙◌, ◌≤◌, ◌<◌, ◌+◌, ◌-◌, ◌^◌, ◌==◌, ◌&&◌, suc, not, nat_le, if◌then◌else◌, length, take, filter, decimal, arith, rules, ◌++◌, append_assoc}
pub use Rattle.std.specs.List.{list_all}
pub use Rattle.std.specs.Option.{option_map, option_or, option_map_or}
pub use Rattle.std.specs.Prelude.{slice_get}
pub use Rattle.std.proofs.lemmas.Bool.Decides.{nat_tests}
pub use Rattle.std.proofs.lemmas.List.{take_all, length-map, map-append}
pub use Rattle.st_mnemonic.specs.Table.{index_operation, field_operation}
unfoldable pub use Rattle.st_mnemonic.specs.Table.{other_operations, index_operations, field_operations}
pub use Rattle.st_mnemonic.specs.declared.operations.Operation.TheVariants.{Half, Vfl}
pub use Rattle.st_text.specs.Pieces.{pieces_of, onto_first, lacks}
pub use Rattle.st_mnemonic.specs.Fields.{texts}
