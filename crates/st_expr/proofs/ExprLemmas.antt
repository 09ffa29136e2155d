-- Lemmas on cutting a text at its signs and reading its parts.
use Rattle.std.proofs.Common.{◌≡◌, ◌==◌, ◌+◌, ℕ, Bool, true, false, List, [], ◌∷◌, ◌++◌, Option, Some, None, refl, ap, sym, ◌∙◌, append_assoc, append-nil, if◌then◌else◌, arith, length}
use Rattle.std.specs.Borrow.{Bor}
use Rattle.st_expr.specs.Expression.{onto_part, parts_after}

-- the parts of a text with a text put in front of the first part
abbrev pub onto_parts : List ℕ → List (Bool × List ℕ) → List (Bool × List ℕ)
onto_parts front [] = (false, front) ∷ []
onto_parts front (part ∷ parts) = (part.0, front ++ part.1) ∷ parts

pub onto_parts-nothing : (m : Bool) (text : List ℕ) → onto_parts [] (parts_after m text) ≡ parts_after m text
onto_parts-nothing m [] = refl
onto_parts-nothing m (c ∷ cs) =
    let P : List (Bool × List ℕ) → Type 0 = λ p. onto_parts [] p ≡ p in
    elim (c == 43) as (λ v. P (if v then (m, []) ∷ parts_after false cs
    else (if c == 45 then (m, []) ∷ parts_after true cs else onto_part c (parts_after m cs)))) [
      | true ↦ refl
      | false ↦ elim (c == 45) as (λ v. P (if v then (m, []) ∷ parts_after true cs else onto_part c (parts_after m cs))) [
        | true ↦ refl
        | false ↦ elim (parts_after m cs) as (λ p. P (onto_part c p)) [ [] ↦ refl | q ∷ qs ↦ refl ]
      ]
    ]

onto_parts-onto_part : (front : List ℕ) (c : ℕ) (parts : List (Bool × List ℕ)) →
    onto_parts (front ++ c ∷ []) parts ≡ onto_parts front (onto_part c parts)
onto_parts-onto_part front c [] = refl
onto_parts-onto_part front c (part ∷ parts) =
    ap (λ (p : List ℕ). (part.0, p) ∷ parts) (append_assoc front (c ∷ []) part.1)

-- the next byte is not a sign, so it belongs to the first part
pub parts_on : (m : Bool) (c : ℕ) (front longer rest tail : List ℕ) → rest ≡ c ∷ tail → (c ≡ 43 → ⊥) → (c ≡ 45 → ⊥) →
    longer ≡ front ++ c ∷ [] → onto_parts longer (parts_after m tail) ≡ onto_parts front (parts_after m rest)
parts_on m c front longer rest tail parts not_43 not_45 more =
    let no_plus : (c == 43) ≡ false = grind arith in
    let no_minus : (c == 45) ≡ false = grind arith in
    let step = λ (p q : Bool). onto_parts front (if p then (m, []) ∷ parts_after false tail
    else (if q then (m, []) ∷ parts_after true tail else onto_part c (parts_after m tail))) in
    ap (λ (f : List ℕ). onto_parts f (parts_after m tail)) more
    ∙ (onto_parts-onto_part front c (parts_after m tail)
    ∙ sym (ap (λ (s : List ℕ). onto_parts front (parts_after m s)) parts
    ∙ (ap (λ p. step p (c == 45)) no_plus ∙ ap (λ q. step false q) no_minus)))

-- the next byte is a plus, so the first part ends
pub plus_here : (m : Bool) (c : ℕ) (front first rest tail : List ℕ) → rest ≡ c ∷ tail → c ≡ 43 → first ≡ front →
    onto_parts front (parts_after m rest) ≡ (m, first) ∷ parts_after false tail
plus_here m c front first rest tail parts is_43 same =
    let is_plus : (c == 43) ≡ true = grind arith in
    let step = λ (p : Bool). onto_parts front (if p then (m, []) ∷ parts_after false tail
    else (if c == 45 then (m, []) ∷ parts_after true tail else onto_part c (parts_after m tail))) in
    ap (λ (s : List ℕ). onto_parts front (parts_after m s)) parts
    ∙ (ap step is_plus ∙ ap (λ (f : List ℕ). (m, f) ∷ parts_after false tail) (append-nil front ∙ sym same))

-- the next byte is a minus, so the first part ends
pub minus_here : (m : Bool) (c : ℕ) (front first rest tail : List ℕ) → rest ≡ c ∷ tail → c ≡ 45 →
    first ≡ front → onto_parts front (parts_after m rest) ≡ (m, first) ∷ parts_after true tail
minus_here m c front first rest tail parts is_45 same =
    let no_plus : (c == 43) ≡ false = grind arith in
    let is_minus : (c == 45) ≡ true = grind arith in
    let step = λ (p q : Bool). onto_parts front (if p then (m, []) ∷ parts_after false tail
    else (if q then (m, []) ∷ parts_after true tail else onto_part c (parts_after m tail))) in
    ap (λ (s : List ℕ). onto_parts front (parts_after m s)) parts
    ∙ (ap (λ p. step p (c == 45)) no_plus ∙ (ap (λ q. step false q) is_minus
    ∙ ap (λ (f : List ℕ). (m, f) ∷ parts_after true tail) (append-nil front ∙ sym same)))

-- the parts of the remaining text, if a sign precedes it
abbrev pub parts_left : Option (Bool × Bor (List ℕ)) → List (Bool × List ℕ)
parts_left None = []
parts_left (Some p) = parts_after p.0 p.1.now

-- the length of the remaining text plus one for its sign; 0 if nothing remains
abbrev pub length_left : Option (Bool × Bor (List ℕ)) → ℕ
length_left None = 0
length_left (Some p) = length p.1.now + 1
