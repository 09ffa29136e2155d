-- Conditional values, and sequences of optional values that are all absent.
use Rattle.st_prep.proofs.Common.{◌≡◌, Bool, true, false, if◌then◌else◌, Option, None, Some, refl}
use Rattle.std.specs.Option.{option_or}

-- a property of both branches holds for the conditional
pub of_choice : {A : Type 0} (P : A → Type 0) (b : Bool) (x y : A) → P x → P y → P (if b then x else y)
of_choice P true x y here there = here
of_choice P false x y here there = there

-- neither of two optional values is present
pub none-left : {A : Type 0} (a b : Option A) → option_or a b ≡ None → a ≡ None
none-left None b h = refl
none-left (Some x) b h = h

pub none-right : {A : Type 0} (a b : Option A) → option_or a b ≡ None → b ≡ None
none-right None b h = h
none-right (Some x) b h = cc

-- a conditional that is absent takes its second branch
pub none-else : {A : Type 0} (b : Bool) (x : A) (y : Option A) → (if b then Some x else y) ≡ None → y ≡ None
none-else true x y h = cc
none-else false x y h = h

pub test-none : {A : Type 0} (b : Bool) (x : A) (y : Option A) → (if b then Some x else y) ≡ None → b ≡ false
test-none true x y h = cc
test-none false x y h = refl
