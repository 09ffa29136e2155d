-- Lemmas on lines that are appended in consecutive groups.
use Rattle.st_card.proofs.Common.{◌≡◌, ◌+◌, ℕ, suc, zero, List, [], ◌∷◌, ◌++◌, map, take, Some, Result, Ok, Err, OnOk, ap, sym, ◌∙◌, append_assoc, arith, slice_get, map-append, flat_map, text_of_lines}
use Rattle.std.proofs.lemmas.List.Concat.{flat_map-append}

module _ {X E : Type 0} (f : X → List ℕ) where
  -- the text of three groups, if memory sufficed for the last
  pub three_written : (r : Result (Unit {0}) E) (old one two new : List ℕ) (a b c : List X) →
      one ≡ old ++ flat_map f a → two ≡ one ++ flat_map f b →
      OnOk r (new ≡ two ++ flat_map f c) → OnOk r (new ≡ old ++ flat_map f (a ++ b ++ c))
  three_written (Ok x) old one two new a b c first second last =
      rw (last, second, first, flat_map-append f (a ++ b) c, flat_map-append f a b) (simp append_assoc)
  three_written (Err e) old one two new a b c first second last = tt

-- the items up to one and with it
taken-more : {X : Type 0} (xs : List X) (i : ℕ) (x : X) → slice_get xs i ≡ Some x → take (i + 1) xs ≡ take i xs ++ x ∷ []
taken-more [] i x here = cc
taken-more (y ∷ ys) zero x here = cc
taken-more (y ∷ ys) (suc i) x here =
    let same : suc i + 1 ≡ suc (i + 1) = omega arith in ap (λ k. take k (y ∷ ys)) same ∙ ap (λ zs. y ∷ zs) (taken-more ys i x here)

-- the text of the lines of items up to one and with it
pub lines-more : {X : Type 0} (line : X → List ℕ) (xs : List X) (i : ℕ) (x : X) (old now new : List ℕ) → slice_get xs i ≡ Some x →
    now ≡ old ++ text_of_lines (map line (take i xs)) → new ≡ now ++ text_of_lines (line x ∷ []) →
    new ≡ old ++ text_of_lines (map line (take (i + 1) xs))
lines-more line xs i x old now new here before further =
    rw (
      further,
      before,
      taken-more xs i x here,
      map-append line (take i xs) (x ∷ []),
      flat_map-append (λ l. l ++ 10 ∷ []) (map line (take i xs)) (line x ∷ []),
      append_assoc,
    )

-- the text of the lines of the requests with one more keyword
pub keyword-more : {K X : Type 0} (line : X → List ℕ) (asked : K → List X) (keyword : K) (after keywords : List K) (now new whole : List ℕ) →
    keywords ≡ keyword ∷ after → now ++ text_of_lines (map line (flat_map asked keywords)) ≡ whole →
    new ≡ now ++ text_of_lines (map line (asked keyword)) → new ++ text_of_lines (map line (flat_map asked after)) ≡ whole
keyword-more line asked keyword after keywords now new whole parts before further =
    let split : text_of_lines (map line (flat_map asked (keyword ∷ after)))
    ≡ text_of_lines (map line (asked keyword)) ++ text_of_lines (map line (flat_map asked after)) =
    ap (λ ls. text_of_lines ls) (map-append line (asked keyword) (flat_map asked after))
    ∙ flat_map-append (λ l. l ++ 10 ∷ []) (map line (asked keyword)) (map line (flat_map asked after)) in
    ap (λ t. t ++ text_of_lines (map line (flat_map asked after))) further
    ∙ append_assoc now (text_of_lines (map line (asked keyword))) (text_of_lines (map line (flat_map asked after)))
    ∙ ap (λ t. now ++ t) (sym split)
    ∙ ap (λ ks. now ++ text_of_lines (map line (flat_map asked ks))) (sym parts)
    ∙ before
