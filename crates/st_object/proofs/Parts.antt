-- Lemmas on splitting a text at the first occurrence of a byte.
use Rattle.st_object.proofs.Common.{◌≡◌, ℕ, true, IsTrue, List, [], ◌∷◌, ◌++◌, Option, Some, None, MatchOption, IfSome, refl, ap, sym, ◌∙◌, arith, eq-eqb, option_map, lacks, parts_at}
use Rattle.std.specs.Borrow.{Bor}

-- a text around the byte is split there
pub parts_around : (at : ℕ) (front back : List ℕ) → lacks at front ≡ true → parts_at at (front ++ at ∷ back) ≡ Some (front, back)
parts_around at [] back lacking = rw (eq-eqb at at refl)
parts_around at (c ∷ cs) back lacking = grind (arith, parts_around at cs back)

-- a text without the byte is not split
pub parts_none : (at : ℕ) (text : List ℕ) → lacks at text ≡ true → parts_at at text ≡ None
parts_none at [] lacking = refl
parts_none at (c ∷ cs) lacking = grind (arith, parts_none at cs)

-- the result of the split is the two parts
pub parts_found : (at : ℕ) (text : List ℕ) (r : Option (Bor (List ℕ) × Bor (List ℕ))) →
    MatchOption r (IsTrue (lacks at text)) (λ p. IsTrue (lacks at p.0.now)) →
    IfSome r (λ p. text ≡ p.0.now ++ at ∷ p.1.now) →
    option_map (λ p. (p.0.now, p.1.now)) r ≡ parts_at at text
parts_found at text None lacking whole = sym (parts_none at text lacking)
parts_found at text (Some p) lacking whole = sym (ap (λ s. parts_at at s) whole ∙ parts_around at p.0.now p.1.now lacking)
