-- The result of a stable sort by keys is the sorted list of the definition.
use Rattle.std.proofs.Common.{◌≡◌, ◌∙◌, ◌≤◌, ℕ, zero, suc, sym, refl, ap, nat_le, nat_cmp, is_lt, cond, if◌then◌else◌, Bool, true, false, List, [], ◌∷◌, filter, zero-le, suc-le-suc, inl, inr, arith}
use Rattle.std.proofs.lemmas.Bool.{leb-false, cond-true, cond-false, cases_Bool}
use Rattle.std.proofs.lemmas.Bool.Decides.{nat_tests}
use Rattle.std.specs.List.Sorted.{ties, IsNonDecreasingBy, IsStableByKey}
use Rattle.st_entries.specs.Moments.{KeysRise, ordered_with, in_order}
use Rattle.st_entries.proofs.Forward.{in_order_rises}

tied_numbers : (m n : ℕ) → (ties (λ x y. is_lt (nat_cmp x y)) m n ≡ true → m ≡ n) × (m ≡ n → ties (λ x y. is_lt (nat_cmp x y)) m n ≡ true)
tied_numbers m n = (λ h. grind (arith, nat_tests), λ h. grind (arith, nat_tests))

-- an item that passes the test of a filter, and one that does not
passed : {X : Type 0} (p : X → Bool) (x : X) (xs : List X) → p x ≡ true → filter p (x ∷ xs) ≡ x ∷ filter p xs
passed p x xs is = cond-true _ _ _ is

failed : {X : Type 0} (p : X → Bool) (x : X) (xs : List X) → p x ≡ false → filter p (x ∷ xs) ≡ filter p xs
failed p x xs is = cond-false _ _ _ is

-- swapping two items, not both of which pass a test, does not change the order of those that pass
past_by : {X : Type 0} (p : X → Bool) (a b : Bool) (x y : X) (ys rest : List X) → p x ≡ a → p y ≡ b
    → (p x ≡ true → p y ≡ true → ⊥) → filter p rest ≡ filter p (x ∷ ys) → filter p (y ∷ rest) ≡ filter p (x ∷ y ∷ ys)
past_by p true true x y ys rest here there not_both same = absurd (not_both here there)
past_by p true false x y ys rest here there not_both same = grind (arith, here, there, same)
past_by p false true x y ys rest here there not_both same = grind (arith, here, there, same)
past_by p false false x y ys rest here there not_both same = grind (arith, here, there, same)

module _ {X : Type 0} (key : X → ℕ) where
  -- whether two items have equal keys, as the sort tests it
  abbrev are_tied : X → X → Bool
  are_tied = ties (λ x y. is_lt (nat_cmp (key x) (key y)))

  tied_keys : (x y : X) → are_tied x y ≡ true → key x ≡ key y
  tied_keys x y = (tied_numbers (key x) (key y)).0

  same_tied : (x y : X) → key x ≡ key y → are_tied x y ≡ true
  same_tied x y = (tied_numbers (key x) (key y)).1

  -- the items with one key after one more is inserted
  inserted_tied : (z x : X) (ys : List X) → filter (are_tied z) (ordered_with key x ys) ≡ filter (are_tied z) (x ∷ ys)
  unfolding ordered_with
  inserted_tied z x [] = refl
  inserted_tied z x (y ∷ ys) = go (nat_le (key x) (key y)) refl (inserted_tied z x ys)
    where
      go : (first : Bool) → nat_le (key x) (key y) ≡ first → filter (are_tied z) (ordered_with key x ys) ≡ filter (are_tied z) (x ∷ ys)
          → filter (are_tied z) (if nat_le (key x) (key y) then x ∷ y ∷ ys else y ∷ ordered_with key x ys) ≡ filter (are_tied z) (x ∷ y ∷ ys)
      go true test rest = rw test refl
      go false test rest =
          let not_both : are_tied z x ≡ true → are_tied z y ≡ true → ⊥ =
          λ here there. omega (arith, tied_keys z x here, tied_keys z y there, leb-false _ _ test) in
          rw test (past_by (are_tied z) (are_tied z x) (are_tied z y) x y ys (ordered_with key x ys) refl refl not_both rest)

  -- the items with one key in a sorted list
  ordered_tied : (z : X) (xs : List X) → filter (are_tied z) (in_order key xs) ≡ filter (are_tied z) xs
  unfolding in_order
  ordered_tied z [] = refl
  ordered_tied z (x ∷ xs) =
      inserted_tied z x (in_order key xs) ∙ ap (λ l. cond (are_tied z x) (x ∷ l) l) (ordered_tied z xs)

  -- the keys of neighbours after a sort
  rise_behind : (x : X) (xs : List X) → IsNonDecreasingBy key (x ∷ xs) → KeysRise key (key x) xs
  rise_behind x [] up = tt
  rise_behind x (y ∷ ys) up = (
    up zero (suc zero) x zero-le (suc-le-suc (suc-le-suc zero-le)),
    rise_behind y ys (λ i j d le lt. up (suc i) (suc j) d (suc-le-suc le) (suc-le-suc lt)),
  )

  rise_from_sort : (xs : List X) → IsNonDecreasingBy key xs → KeysRise key 0 xs
  rise_from_sort [] up = tt
  rise_from_sort (x ∷ xs) up = (zero-le, rise_behind x xs up)

  -- if the keys of a list do not fall and begin at n or later, and an item has the key of z, then
  -- that key is at least n
  found : (n : ℕ) (z : X) (xs : List X) (y : X) (ys : List X) → KeysRise key n xs → filter (are_tied z) xs ≡ y ∷ ys → n ≤ key z
  found n z [] y ys up is = cc
  found n z (x ∷ xs) y ys up is = elim (cases_Bool (are_tied z x)) [
    | inl here ↦ omega (arith, up.0, tied_keys z x here)
    | inr there ↦ let later = found (key x) z xs y ys up.1 (sym (failed (are_tied z) x xs there) ∙ is) in omega (arith, up.0, later)
  ]

  -- lists with nondecreasing keys are equal if they agree on the items of each key
  known_by_keys : (m n : ℕ) (xs ys : List X) → KeysRise key m xs → KeysRise key n ys
      → ((z : X) → filter (are_tied z) xs ≡ filter (are_tied z) ys) → xs ≡ ys
  known_by_keys m n [] [] left right same = refl
  known_by_keys m n [] (y ∷ ys) left right same = let clash = same y ∙ passed (are_tied y) y ys (same_tied y y refl) in cc
  known_by_keys m n (x ∷ xs) [] left right same = let clash = sym (same x) ∙ passed (are_tied x) x xs (same_tied x x refl) in cc
  known_by_keys m n (x ∷ xs) (y ∷ ys) left right same =
      let at_x = passed (are_tied x) x xs (same_tied x x refl) in
      let at_y = passed (are_tied y) y ys (same_tied y y refl) in
      let up = found (key y) x (y ∷ ys) x _ (omega arith, right.1) (sym (same x) ∙ at_x) in
      let down = found (key x) y (x ∷ xs) y _ (omega arith, left.1) (same y ∙ at_y) in
      let heads = sym at_x ∙ same x ∙ passed (are_tied x) y ys (same_tied x y (omega arith)) in
      let head : x ≡ y = cc in
      let tails : (z : X) → filter (are_tied z) xs ≡ filter (are_tied z) ys =
      λ z. elim (cases_Bool (are_tied z x)) [
        | inl here ↦
            let both = sym (passed (are_tied z) x xs here) ∙ same z ∙ passed (are_tied z) y ys (ap (are_tied z) (sym head) ∙ here) in cc
        | inr there ↦
            sym (failed (are_tied z) x xs there) ∙ same z ∙ failed (are_tied z) y ys (ap (are_tied z) (sym head) ∙ there)
      ] in
      ap (λ w. w ∷ xs) head ∙ ap (λ l. y ∷ l) (known_by_keys (key x) (key y) xs ys left.1 right.1 tails)

  -- a stable sort gives the sorted list of the definition
  pub sorted_in_order : (xs ys : List X) → IsNonDecreasingBy key ys → IsStableByKey key nat_cmp xs ys → ys ≡ in_order key xs
  sorted_in_order xs ys up stable =
      known_by_keys 0 0 ys (in_order key xs) (rise_from_sort ys up) (in_order_rises key xs)
      (λ z. stable z ∙ sym (ordered_tied z xs))
