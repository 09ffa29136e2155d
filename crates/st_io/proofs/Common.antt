-- The names that proofs of this crate use, passed on from one place. Declares nothing.
pub use Rattle.std.proofs.Common.{◌≡◌, ℕ, ◌+◌, ◌≤◌, List, [], ◌∷◌, ◌++◌, length, take, drop, refl, sym, ◌∙◌, ap, append_assoc, arith, length-append, ◌-◌, ◌^◌, ◌<◌, min, length-drop, take_at, drop-drop, zero, suc, subst}
pub use Rattle.std.specs.Prelude.{Option, None, Some, Result, Ok, Err, IsErr, MatchResult}
pub use Rattle.std.proofs.lemmas.List.{take-append-drop, append-nil, length-take-le, take_all, length-take}
pub use Rattle.st_io.specs.Count.{count_after, HasRisen}
pub use Rattle.st_io.specs.Output.{OutputState, Appends, Wrote, WroteFront}
pub use Rattle.st_io.specs.Input.{InputState, Came, Gave}
pub use Rattle.st_io.specs.declared.Failed.{Failed}
pub use Rattle.st_io.specs.Lines.{text, StoppedIn, WritesLines}
unfoldable pub use Rattle.st_io.specs.Lines.{lines_for}
pub use Rattle.st_io.specs.Event.{Event, lines_of, StoppedAt, at_moment}
