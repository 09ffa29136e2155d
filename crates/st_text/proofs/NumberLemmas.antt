-- Reading a number with a cap.
use Rattle.st_text.proofs.Common.{◌≡◌, ℕ, ◌+◌, ◌*◌, ◌-◌, ◌&&◌, Bool, true, List, [], ◌∷◌, min, ap, sym, ◌∙◌, arith, is_ascii_digit, list_all, value_after}

-- capping the value of the digits so far does not change the capped value of all digits
pub capped_value : (cap n : ℕ) (cs : List ℕ) → min (value_after (min n cap) cs) cap ≡ min (value_after n cs) cap
capped_value cap n [] = omega arith
capped_value cap n (c ∷ cs) =
    let d : ℕ = c - 48 in
    let step : min (min n cap * 10 + d) cap ≡ min (n * 10 + d) cap = omega arith in
    sym (capped_value cap (min n cap * 10 + d) cs)
    ∙ (ap (λ m. min (value_after m cs) cap) step ∙ capped_value cap (n * 10 + d) cs)

-- one digit further
pub value_step : (cap n m c : ℕ) (rest tail : List ℕ) → rest ≡ c ∷ tail → m ≡ min (n * 10 + (c - 48)) cap →
    min (value_after m tail) cap ≡ min (value_after n rest) cap
value_step cap n m c rest tail parts longer =
    ap (λ k. min (value_after k tail) cap) longer
    ∙ (capped_value cap (n * 10 + (c - 48)) tail ∙ sym (ap (λ (s : List ℕ). min (value_after n s) cap) parts))

pub digits_step : (c : ℕ) (rest tail : List ℕ) → rest ≡ c ∷ tail → is_ascii_digit c ≡ true →
    list_all is_ascii_digit tail ≡ list_all is_ascii_digit rest
digits_step c rest tail parts is_digit =
    sym (ap (λ (s : List ℕ). list_all is_ascii_digit s) parts
    ∙ ap (λ (b : Bool). b && list_all is_ascii_digit tail) is_digit)
