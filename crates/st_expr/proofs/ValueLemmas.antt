-- The value of an expression, part by part.
use Rattle.std.proofs.Common.{◌≡◌, ◌≤◌, ◌+◌, ◌*◌, ◌^◌, ◌+ℤ◌, ◌-ℤ◌, ◌≤ℤ◌, ℕ, ℤ, pos, to_z, of_z, w64, Bool, List, [], ◌∷◌, length, Option, Some, None, subst, ap, sym, refl, ◌∙◌, arith}
use Rattle.std.specs.Prelude.{MatchOption}
use Rattle.std.specs.Borrow.{Bor}
use Rattle.std.specs.Int.RustNames.{FitsSigned}
use Rattle.std.proofs.lemmas.Int.{ints}
use Rattle.st_expr.specs.Expression.{parts_after, terms_of}
use Rattle.st_expr.specs.Value.{plus, sum_of_terms}

-- the text is one part if no sign follows its first part
pub nothing_behind : (text word : List ℕ) (behind : Option (Bool × Bor (List ℕ))) → behind ≡ None →
    MatchOption behind ((m : Bool) → parts_after m text ≡ (m, word) ∷ [])
    (λ p. (m : Bool) → parts_after m text ≡ (m, word) ∷ parts_after p.0 p.1.now) →
    (m : Bool) → parts_after m text ≡ (m, word) ∷ []
nothing_behind text word None is parts = parts
nothing_behind text word (Some p) is parts = cc

-- the text is its first part and further parts if a sign follows the first part
pub more_behind : (text word : List ℕ) (behind : Option (Bool × Bor (List ℕ))) (p : Bool × Bor (List ℕ)) → behind ≡ Some p →
    MatchOption behind ((m : Bool) → parts_after m text ≡ (m, word) ∷ [])
    (λ p. (m : Bool) → parts_after m text ≡ (m, word) ∷ parts_after p.0 p.1.now) →
    (m : Bool) → parts_after m text ≡ (m, word) ∷ parts_after p.0 p.1.now
more_behind text word behind p is parts = subst (λ (b : Option (Bool × Bor (List ℕ))).
    MatchOption b ((m : Bool) → parts_after m text ≡ (m, word) ∷ [])
    (λ p. (m : Bool) → parts_after m text ≡ (m, word) ∷ parts_after p.0 p.1.now)) is parts

-- the lengths of the first part, the sign and the remaining text add up to the text's length
pub length_behind : (text word : List ℕ) (behind : Option (Bool × Bor (List ℕ))) (p : Bool × Bor (List ℕ)) → behind ≡ Some p →
    MatchOption behind (length word ≡ length text) (λ p. length word + 1 + length p.1.now ≡ length text) →
    length word + 1 + length p.1.now ≡ length text
length_behind text word behind p is lengths = subst (λ (b : Option (Bool × Bor (List ℕ))).
    MatchOption b (length word ≡ length text) (λ p. length word + 1 + length p.1.now ≡ length text)) is lengths

nothing_added : (value : Option ℤ) → plus value (Some (pos 0)) ≡ value
nothing_added None = refl
nothing_added (Some v) = let same : v +ℤ pos 0 ≡ v = omega (arith, ints) in ap (λ n. Some n) same

-- the value of a text with one part is the value of that part
pub only_part : (symbols : List (List ℕ × ℕ)) (m : Bool) (text word : List ℕ) (value : Option ℤ) →
    parts_after m text ≡ (m, word) ∷ [] →
    ((parts : List (Bool × List ℕ)) → plus value (sum_of_terms symbols (terms_of parts)) ≡ sum_of_terms symbols (terms_of ((m, word) ∷ parts))) →
    value ≡ sum_of_terms symbols (terms_of (parts_after m text))
only_part symbols m text word value parts added =
    sym (nothing_added value)
    ∙ (added [] ∙ ap (λ (ps : List (Bool × List ℕ)). sum_of_terms symbols (terms_of ps)) (sym parts))

-- the value of a text with several parts is that of the first plus that of the rest
pub first_of_parts : (symbols : List (List ℕ × ℕ)) (m n next : Bool) (text word : List ℕ) (rest behind : Bor (List ℕ)) (value sum : ℤ) →
    n ≡ next → behind ≡ rest → parts_after m text ≡ (m, word) ∷ parts_after next rest.now →
    ((parts : List (Bool × List ℕ)) → plus (Some value) (sum_of_terms symbols (terms_of parts)) ≡ sum_of_terms symbols (terms_of ((m, word) ∷ parts))) →
    Some sum ≡ sum_of_terms symbols (terms_of (parts_after n behind.now)) →
    Some (value +ℤ sum) ≡ sum_of_terms symbols (terms_of (parts_after m text))
first_of_parts symbols m n next text word rest behind value sum same_sign same_rest parts added is_sum =
    ap (plus (Some value)) (is_sum
    ∙ (ap (λ b. sum_of_terms symbols (terms_of (parts_after b behind.now))) same_sign
    ∙ ap (λ (r : Bor (List ℕ)). sum_of_terms symbols (terms_of (parts_after next r.now))) same_rest))
    ∙ (added (parts_after next rest.now) ∙ ap (λ (ps : List (Bool × List ℕ)). sum_of_terms symbols (terms_of ps)) (sym parts))

-- the value of one part plus that of the remaining parts stays within its bounds
pub sum_within : (a l : ℕ) (rest behind : Bor (List ℕ)) (v s : ℤ) → behind ≡ rest → a + 1 + length rest.now ≡ l → l ≤ 63 →
    (pos 0 -ℤ pos (2 ^ 32)) ≤ℤ v → v ≤ℤ pos (2 ^ 32) →
    (pos 0 -ℤ pos ((length behind.now + 1) * 2 ^ 32)) ≤ℤ s → s ≤ℤ pos ((length behind.now + 1) * 2 ^ 32) →
    FitsSigned w64 (to_z w64 (of_z w64 v) +ℤ to_z w64 (of_z w64 s))
    × (to_z w64 (of_z w64 (to_z w64 (of_z w64 v) +ℤ to_z w64 (of_z w64 s))) ≡ (v +ℤ s))
    × ((pos 0 -ℤ pos ((l + 1) * 2 ^ 32)) ≤ℤ (v +ℤ s)) × ((v +ℤ s) ≤ℤ pos ((l + 1) * 2 ^ 32))
sum_within a l rest behind v s same parts few low high low_behind high_behind =
    let as_long : length behind.now ≡ length rest.now = ap (λ (r : Bor (List ℕ)). length r.now) same in
    (omega (arith, ints), omega (arith, ints), omega (arith, ints), omega (arith, ints))
