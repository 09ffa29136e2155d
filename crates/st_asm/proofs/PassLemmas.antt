-- Lemmas on lists in the form that slice patterns give.
use Rattle.st_asm.proofs.Common.{◌≡◌, ◌≤◌, ◌<◌, ◌-◌, refl, List, [], ◌∷◌, length, get_or, take, drop, ap, sym, ◌∙◌, arith}
use Rattle.st_text.proofs.ListLemmas.{first_and_rest}

-- a nonempty list in the form that a slice pattern gives
pub with_first : {X : Type 0} (xs : List X) (first : X) → 1 ≤ length xs → first ≡ get_or xs 0 first →
    xs ≡ first ∷ take (length xs - 1) (drop 1 xs)
with_first xs first some is_first =
    first_and_rest xs first some ∙ ap (λ y. y ∷ take (length xs - 1) (drop 1 xs)) (sym is_first)

-- a list without items
pub no_items : {X : Type 0} (xs : List X) → length xs < 1 → xs ≡ []
no_items [] none = refl
no_items (x ∷ xs) none = let no : ⊥ = omega arith in absurd no
