-- A list as its first item and the rest, as slice patterns split it.
use Rattle.st_text.proofs.Common.{◌≡◌, ◌≤◌, ◌<◌, ℕ, suc, ◌+◌, ◌-◌, List, [], ◌∷◌, ◌++◌, length, get_or, take, drop, ap, sym, ◌∙◌, arith, drop-cons, add-one, take-length, take_more}

-- a nonempty list as its first item and the rest
pub first_and_rest : {X : Type 0} (xs : List X) (other : X) → 1 ≤ length xs →
    xs ≡ get_or xs 0 other ∷ take (length xs - 1) (drop 1 xs)
first_and_rest [] other h = absurd (omega arith)
first_and_rest (x ∷ xs) other h =
    let count : length xs ≡ suc (length xs) - 1 = omega arith in
    ap (λ t. x ∷ t) (sym (take-length xs) ∙ ap (λ n. take n xs) count)

-- one item further: the items before it, and those after it
pub past_first : (text rest tail : List ℕ) (n x : ℕ) → rest ≡ drop n text → rest ≡ x ∷ tail → n < length text →
    (take (n + 1) text ≡ take n text ++ x ∷ []) × (tail ≡ drop (n + 1) text)
past_first text rest tail n x here parts within =
    let ahead : drop n text ≡ get_or text n 0 ∷ drop (suc n) text = drop-cons text n 0 within in
    let same_item : get_or text n 0 ≡ x = cc in
    let same_tail : tail ≡ drop (suc n) text = cc in
    (take_more text n 0 within ∙ ap (λ y. take n text ++ y ∷ []) same_item, rw add-one same_tail)
