-- Lemmas on the sums of cards.
use Rattle.st_tally.proofs.Common.{not, nat_eq, nat_lt, length, get_or, filter, ◌≡◌, ◌≢◌, ℕ, ◌+◌, ◌≤◌, ◌<◌, true, false, Bool, List, [], ◌∷◌, ◌++◌, inl, inr, refl, sym, ◌∙◌, ap, subst, arith, cases_Bool, eqb-true, eqb-false, length_push, append-nil, filter-append, sum_by_push, ticks_for, row_stalled, lt-cases, charges_of_entry, AddsCard, TalliedRow, card_of, rows_of_card, rows_elsewhere, stage_ticks, wait_ticks, no_card_sum, IsCardSum, CardSum}

-- ---- a list with one row more, of which a test takes some

pub filter-some : {X : Type 0} (p : X → Bool) (xs : List X) (x : X) → p x ≡ true → filter p (xs ++ x ∷ []) ≡ filter p xs ++ x ∷ []
filter-some p xs x is = filter-append p xs (x ∷ []) ∙ ap (λ ys. filter p xs ++ ys) (rw is refl)

pub filter-none : {X : Type 0} (p : X → Bool) (xs : List X) (x : X) → p x ≡ false → filter p (xs ++ x ∷ []) ≡ filter p xs
filter-none p xs x is = filter-append p xs (x ∷ []) ∙ ap (λ ys. filter p xs ++ ys) (rw is refl) ∙ append-nil (filter p xs)

-- ---- the sums of one card

-- the sums with a row more
card-more : (ys : List TalliedRow) (x : TalliedRow) (old new : CardSum) → AddsCard x.done x.uses x.before old new → IsCardSum ys old
    → IsCardSum (ys ++ x ∷ []) new
unfolding stage_ticks wait_ticks
card-more ys x old new adds is = record {
  rows = adds.rows ∙ ap (λ n. n + 1) is.rows ∙ sym (length_push ys x);
  stages = λ s.
      adds.stages s
      ∙ ap (λ n. n + ticks_for s (charges_of_entry x.done)) (is.stages s)
      ∙ sym (sum_by_push (λ (y : TalliedRow). ticks_for s (charges_of_entry y.done)) ys x);
  waits = λ r s parted.
      adds.waits r s parted
      ∙ ap (λ n. n + row_stalled r s x.uses x.before (charges_of_entry x.done)) (is.waits r s parted)
      ∙ sym (sum_by_push (λ (y : TalliedRow). row_stalled r s y.uses y.before (charges_of_entry y.done)) ys x);
}

rows-own : (k : ℕ) (xs : List TalliedRow) (x : TalliedRow) → nat_eq (card_of x) k ≡ true → rows_of_card k (xs ++ x ∷ []) ≡ rows_of_card k xs ++ x ∷ []
unfolding rows_of_card
rows-own k xs x is = filter-some (λ (y : TalliedRow). nat_eq (card_of y) k) xs x is

rows-other : (k : ℕ) (xs : List TalliedRow) (x : TalliedRow) → nat_eq (card_of x) k ≡ false → rows_of_card k (xs ++ x ∷ []) ≡ rows_of_card k xs
unfolding rows_of_card
rows-other k xs x is = filter-none (λ (y : TalliedRow). nat_eq (card_of y) k) xs x is

-- ---- the sums of all cards

pub cards-more : (xs : List TalliedRow) (x : TalliedRow) (old new : List CardSum) → length new ≡ length old
    → (card_of x < length old → AddsCard x.done x.uses x.before (get_or old (card_of x) no_card_sum) (get_or new (card_of x) no_card_sum))
    → ((k : ℕ) → k ≢ card_of x → get_or new k no_card_sum ≡ get_or old k no_card_sum)
    → ((k : ℕ) → k < length old → IsCardSum (rows_of_card k xs) (get_or old k no_card_sum))
    → (k : ℕ) → k < length new → IsCardSum (rows_of_card k (xs ++ x ∷ [])) (get_or new k no_card_sum)
cards-more xs x old new size own others is k inside = elim (cases_Bool (nat_eq (card_of x) k)) [
  | inl y ↦
      let at : card_of x ≡ k = eqb-true (card_of x) k y in
      let low : k < length old = omega (arith, inside, size) in
      let adds : AddsCard x.done x.uses x.before (get_or old k no_card_sum) (get_or new k no_card_sum) =
      subst (λ c. AddsCard x.done x.uses x.before (get_or old c no_card_sum) (get_or new c no_card_sum)) at (own (omega (arith, low, at))) in
      subst (λ ys. IsCardSum ys (get_or new k no_card_sum)) (sym (rows-own k xs x y))
      (card-more (rows_of_card k xs) x (get_or old k no_card_sum) (get_or new k no_card_sum) adds (is k low))
  | inr n ↦
      let apart : k ≢ card_of x = λ at. eqb-false (card_of x) k n (sym at) in
      subst (λ ys. IsCardSum ys (get_or new k no_card_sum)) (sym (rows-other k xs x n))
      (subst (IsCardSum (rows_of_card k xs)) (sym (others k apart)) (is k (omega (arith, inside, size))))
]

-- ---- the sums of the rows elsewhere

elsewhere-own : (n : ℕ) (xs : List TalliedRow) (x : TalliedRow) → nat_lt (card_of x) n ≡ false → rows_elsewhere n (xs ++ x ∷ []) ≡ rows_elsewhere n xs ++ x ∷ []
unfolding rows_elsewhere
elsewhere-own n xs x is = filter-some (λ (y : TalliedRow). not (nat_lt (card_of y) n)) xs x (ap not is)

elsewhere-other : (n : ℕ) (xs : List TalliedRow) (x : TalliedRow) → nat_lt (card_of x) n ≡ true → rows_elsewhere n (xs ++ x ∷ []) ≡ rows_elsewhere n xs
unfolding rows_elsewhere
elsewhere-other n xs x is = filter-none (λ (y : TalliedRow). not (nat_lt (card_of y) n)) xs x (ap not is)

pub others-more : (n : ℕ) (xs : List TalliedRow) (x : TalliedRow) (old new : CardSum) → (card_of x < n → new ≡ old)
    → (n ≤ card_of x → AddsCard x.done x.uses x.before old new) → IsCardSum (rows_elsewhere n xs) old → IsCardSum (rows_elsewhere n (xs ++ x ∷ [])) new
others-more n xs x old new kept adds is = elim (lt-cases (card_of x) n) [
  | inl y ↦
      subst (λ ys. IsCardSum ys new) (sym (elsewhere-other n xs x y.0))
      (subst (IsCardSum (rows_elsewhere n xs)) (sym (kept y.1)) is)
  | inr m ↦
      subst (λ ys. IsCardSum ys new) (sym (elsewhere-own n xs x m.0))
      (card-more (rows_elsewhere n xs) x old new (adds m.1) is)
]
