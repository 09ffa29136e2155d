-- Lemmas on the first field and the rest, and on two combined readings.
use Rattle.st_strap.proofs.Common.{◌≡◌, ◌≤◌, ◌-◌, suc, List, [], ◌∷◌, length, get_or, take, drop, Result, ap, sym, ◌∙◌, arith, take-length, Fault, both_of, texts, FieldText}

-- the texts of fields are the text of the first followed by those of the rest
pub texts_first : (fields : List FieldText) (first : FieldText) → 1 ≤ length fields → first ≡ get_or fields 0 first →
    texts fields ≡ first.text.now ∷ texts (take (length fields - 1) (drop 1 fields))
texts_first [] first some is_first = let no : ⊥ = omega arith in absurd no
texts_first (f ∷ fs) first some is_first =
    let count : length fs ≡ suc (length fs) - 1 = omega arith in
    let tail : fs ≡ take (suc (length fs) - 1) fs = sym (take-length fs) ∙ ap (λ n. take n fs) count in
    ap (λ (y : FieldText). y.text.now ∷ texts fs) (sym is_first)
    ∙ ap (λ (t : List FieldText). first.text.now ∷ texts t) tail

-- equal readings have equal combinations
pub joined : {A B : Type 0} (a p : Result A Fault) (b q : Result B Fault) (r : Result (A × B) Fault) → r ≡ both_of a b → a ≡ p →
    b ≡ q → r ≡ both_of p q
joined a p b q r is same_a same_b =
    is ∙ (ap (λ x. both_of x b) same_a ∙ ap (λ y. both_of p y) same_b)
