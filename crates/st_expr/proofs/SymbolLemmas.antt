-- Names that a table lacks.
use Rattle.std.proofs.Common.{◌≡◌, false, Option, Some, None, is_some, refl}

-- an optional value that is not present is None
pub nothing_there : {X : Type 0} (o : Option X) → is_some o ≡ false → o ≡ None
nothing_there None absent = refl
nothing_there (Some x) absent = cc
