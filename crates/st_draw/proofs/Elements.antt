-- Lemmas on the bytes of consecutive elements.
use Rattle.std.proofs.Common.{◌≡◌, sym, [], ◌∷◌, ◌++◌, List, refl, append_assoc, ℕ}
use Rattle.std.proofs.lemmas.List.{append-nil}
use Rattle.st_draw.specs.Element.{Element, element_text, elements_text}

pub elements_append : (a b : List Element) → elements_text (a ++ b) ≡ elements_text a ++ elements_text b
elements_append [] b = refl
elements_append (e ∷ es) b = let rest = elements_append es b in rw rest (simp append_assoc refl)

-- elements after elements after bytes
pub elements_joined : (s : List ℕ) (a b : List Element)
    → s ++ elements_text (a ++ b) ≡ (s ++ elements_text a) ++ elements_text b
elements_joined s a b = let both = elements_append a b in rw both (simp append_assoc refl)

-- elements after bytes that end with elements
pub elements_behind : (s mid : List ℕ) (a b : List Element) → mid ≡ s ++ elements_text a
    → mid ++ elements_text b ≡ s ++ elements_text (a ++ b)
elements_behind s mid a b so_far = rw so_far (sym (elements_joined s a b))

-- one element after bytes
pub elements_one : (s : List ℕ) (e : Element) → s ++ elements_text (e ∷ []) ≡ s ++ element_text e
elements_one s e = simp append-nil refl
