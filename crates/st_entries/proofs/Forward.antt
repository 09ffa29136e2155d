-- Sorted items have nondecreasing keys.
use Rattle.std.proofs.Common.{◌≡◌, ◌≤◌, refl, ℕ, nat_le, Bool, true, false, List, [], ◌∷◌, arith}
use Rattle.std.proofs.lemmas.Bool.{leb-true, leb-false}
use Rattle.st_entries.specs.Moments.{ordered_with, in_order, KeysRise}
use Rattle.st_entries.specs.Plain.{plain_text, plain_byte}
use Rattle.st_text.specs.Bytes.{is_printable, is_printable_byte}

-- an item that is inserted in front of others or between them, by the test of the first one
inserted_by : {X : Type 0} (key : X → ℕ) (first : Bool) (n : ℕ) (x y : X) (ys : List X) → nat_le (key x) (key y) ≡ first
    → n ≤ key x → n ≤ key y → KeysRise key (key y) ys → (key y ≤ key x → KeysRise key (key y) (ordered_with key x ys))
    → KeysRise key n (ordered_with key x (y ∷ ys))
unfolding ordered_with
inserted_by key true n x y ys test here there rest more = rw test (here, (leb-true _ _ test, rest))
inserted_by key false n x y ys test here there rest more =
    let later : key y ≤ key x = omega (arith, leb-false _ _ test) in rw test (there, more later)

-- an inserted item keeps the keys nondecreasing
inserted_rises : {X : Type 0} (key : X → ℕ) (n : ℕ) (x : X) (ys : List X) → n ≤ key x → KeysRise key n ys
    → KeysRise key n (ordered_with key x ys)
unfolding ordered_with
inserted_rises key n x [] here is = (here, tt)
inserted_rises key n x (y ∷ ys) here is =
    inserted_by key (nat_le (key x) (key y)) n x y ys refl here is.0 is.1 (λ later. inserted_rises key (key y) x ys later is.1)

-- sorted items have nondecreasing keys
pub in_order_rises : {X : Type 0} (key : X → ℕ) (xs : List X) → KeysRise key 0 (in_order key xs)
unfolding in_order
in_order_rises key [] = tt
in_order_rises key (x ∷ xs) = inserted_rises key 0 x (in_order key xs) (omega arith) (in_order_rises key xs)

-- a byte in a form that is safe for a terminal, by its test
byte_by : (shown : Bool) (c : ℕ) → is_printable_byte c ≡ shown → is_printable_byte (plain_byte c) ≡ true
byte_by true c test = rw test test
byte_by false c test = rw test refl

-- a text in a form that is safe for a terminal is printable
pub plain_printable : (text : List ℕ) → is_printable (plain_text text) ≡ true
plain_printable [] = refl
plain_printable (c ∷ cs) =
    let here = byte_by (is_printable_byte c) c refl in let there = plain_printable cs in rw (here, there) refl
