-- Lemmas on rows that cards or headings share.
use Rattle.st_tally.proofs.Common.{not, nat_eq, nat_lt, if◌then◌else◌, Option, None, Some, All, filter, sum_by, ◌≡◌, ◌≢◌, ℕ, zero, suc, ◌+◌, ◌<◌, List, [], ◌∷◌, inl, inr, refl, sym, ◌∙◌, ap, arith, cases_Bool, eqb_tells, All-head, All-tail, sum_by-cons, lt-cases, headings, heading_at, is_heading, sum_below, TalliedRow, card_of, reason_of, lost_by, rows_of_card, rows_elsewhere, rows_for, lost_ticks, Heading, Run, Interrupt, Missed, Card, Serial, Store, Level, Forwarding, Bus, Prefetch, Order}
use Rattle.std.specs.Prelude.{Bool}
use Rattle.std.specs.Option.{is_some}

-- what the first row adds to a sum over the rows that a test takes
first-row : (p : TalliedRow → Bool) (f : TalliedRow → ℕ) (x : TalliedRow) (xs : List TalliedRow)
    → sum_by f (filter p (x ∷ xs)) ≡ (if p x then f x else 0) + sum_by f (filter p xs)
first-row p f x xs = elim (cases_Bool (p x)) [
  | inl y ↦ rw y (sum_by-cons f x (filter p xs))
  | inr n ↦ rw n (none (sum_by f (filter p xs)))
]
  where
    none : (n : ℕ) → n ≡ 0 + n
    none n = omega arith

-- ---- cards

pub below-none : (g : ℕ → ℕ) (n : ℕ) → ((k : ℕ) → k < n → g k ≡ 0) → sum_below g n ≡ 0
unfolding sum_below
below-none g zero each = refl
below-none g (suc n) each = omega (arith, below-none g n (λ k low. each k (omega (arith, low))), each n (omega arith))

below-same : (g h : ℕ → ℕ) (n : ℕ) → ((k : ℕ) → g k ≡ h k) → sum_below g n ≡ sum_below h n
unfolding sum_below
below-same g h zero each = refl
below-same g h (suc n) each = omega (arith, below-same g h n each, each n)

below-both : (g h : ℕ → ℕ) (n : ℕ) → sum_below (λ k. g k + h k) n ≡ sum_below g n + sum_below h n
unfolding sum_below
below-both g h zero = omega arith
below-both g h (suc n) = omega (arith, below-both g h n)

share-apart : (c k a : ℕ) → c ≢ k → (if nat_eq c k then a else 0) ≡ 0
share-apart c k a apart = elim (eqb_tells c k) [ inl y ↦ absurd (apart y.1) | inr n ↦ rw n.0 refl ]

share-own : (c k a : ℕ) → c ≡ k → (if nat_eq c k then a else 0) ≡ a
share-own c k a at = elim (eqb_tells c k) [ inl y ↦ rw y.0 refl | inr n ↦ absurd (n.1 at) ]

below-one : (c a n : ℕ) → c < n → sum_below (λ k. if nat_eq c k then a else 0) n ≡ a
unfolding sum_below
below-one c a zero low = absurd (omega (arith, low))
below-one c a (suc n) low = elim (eqb_tells c n) [
  | inl y ↦
      let others : sum_below (λ k. if nat_eq c k then a else 0) n ≡ 0 =
      below-none (λ k. if nat_eq c k then a else 0) n (λ k less. share-apart c k a (λ at. absurd (omega (arith, less, at, y.1)))) in
      omega (arith, others, share-own c n a y.1)
  | inr m ↦ omega (arith, below-one c a n (omega (arith, low, m.1)), share-apart c n a m.1)
]

no-rows : (f : TalliedRow → ℕ) (k : ℕ) → sum_by f (rows_of_card k []) ≡ 0
unfolding rows_of_card
no-rows f k = refl

first-of-card : (f : TalliedRow → ℕ) (k : ℕ) (x : TalliedRow) (xs : List TalliedRow)
    → sum_by f (rows_of_card k (x ∷ xs)) ≡ (if nat_eq (card_of x) k then f x else 0) + sum_by f (rows_of_card k xs)
unfolding rows_of_card
first-of-card f k x xs = first-row (λ (y : TalliedRow). nat_eq (card_of y) k) f x xs

pub cards-share : (f : TalliedRow → ℕ) (n : ℕ) (xs : List TalliedRow) → All (λ x. card_of x < n) xs
    → sum_below (λ k. sum_by f (rows_of_card k xs)) n ≡ sum_by f xs
cards-share f n [] each = below-none (λ k. sum_by f (rows_of_card k [])) n (λ k low. no-rows f k)
cards-share f n (x ∷ xs) each =
    below-same (λ k. sum_by f (rows_of_card k (x ∷ xs))) (λ k. (if nat_eq (card_of x) k then f x else 0) + sum_by f (rows_of_card k xs)) n
    (λ k. first-of-card f k x xs)
    ∙ below-both (λ k. if nat_eq (card_of x) k then f x else 0) (λ k. sum_by f (rows_of_card k xs)) n
    ∙ ap (λ m. m + sum_below (λ k. sum_by f (rows_of_card k xs)) n) (below-one (card_of x) (f x) n (All-head (λ y. card_of y < n) x xs each))
    ∙ ap (λ m. f x + m) (cards-share f n xs (All-tail (λ y. card_of y < n) x xs each))
    ∙ sym (sum_by-cons f x xs)

-- ---- the slots: those of the cards below a number, and the one of all other rows

first-elsewhere : (f : TalliedRow → ℕ) (n : ℕ) (x : TalliedRow) (xs : List TalliedRow)
    → sum_by f (rows_elsewhere n (x ∷ xs)) ≡ (if not (nat_lt (card_of x) n) then f x else 0) + sum_by f (rows_elsewhere n xs)
unfolding rows_elsewhere
first-elsewhere f n x xs = first-row (λ (y : TalliedRow). not (nat_lt (card_of y) n)) f x xs

none-elsewhere : (f : TalliedRow → ℕ) (n : ℕ) → sum_by f (rows_elsewhere n []) ≡ 0
unfolding rows_elsewhere
none-elsewhere f n = refl

one-slot : (c a n : ℕ) → (if not (nat_lt c n) then a else 0) + sum_below (λ k. if nat_eq c k then a else 0) n ≡ a
one-slot c a n = elim (lt-cases c n) [
  | inl y ↦
      let none : (if not (nat_lt c n) then a else 0) ≡ 0 = rw y.0 refl in
      omega (arith, none, below-one c a n y.1)
  | inr m ↦
      let all : (if not (nat_lt c n) then a else 0) ≡ a = rw m.0 refl in
      omega (arith, all, below-none (λ k. if nat_eq c k then a else 0) n (λ k less. share-apart c k a (λ at. absurd (omega (arith, less, at, m.1)))))
]

pub slots-share : (f : TalliedRow → ℕ) (n : ℕ) (xs : List TalliedRow)
    → sum_by f (rows_elsewhere n xs) + sum_below (λ k. sum_by f (rows_of_card k xs)) n ≡ sum_by f xs
slots-share f n [] = omega (arith, none-elsewhere f n, below-none (λ k. sum_by f (rows_of_card k [])) n (λ k low. no-rows f k))
slots-share f n (x ∷ xs) =
    let first : sum_below (λ k. sum_by f (rows_of_card k (x ∷ xs))) n
    ≡ sum_below (λ k. if nat_eq (card_of x) k then f x else 0) n + sum_below (λ k. sum_by f (rows_of_card k xs)) n =
    below-same (λ k. sum_by f (rows_of_card k (x ∷ xs))) (λ k. (if nat_eq (card_of x) k then f x else 0) + sum_by f (rows_of_card k xs)) n
    (λ k. first-of-card f k x xs)
    ∙ below-both (λ k. if nat_eq (card_of x) k then f x else 0) (λ k. sum_by f (rows_of_card k xs)) n in
    omega (arith, first, first-elsewhere f n x xs, one-slot (card_of x) (f x) n, slots-share f n xs, sum_by-cons f x xs)

-- ---- headings

by-same : (g h : Heading → ℕ) (hs : List Heading) → ((k : Heading) → g k ≡ h k) → sum_by g hs ≡ sum_by h hs
by-same g h [] each = refl
by-same g h (k ∷ hs) each = omega (arith, sum_by-cons g k hs, sum_by-cons h k hs, each k, by-same g h hs each)

by-both : (g h : Heading → ℕ) (hs : List Heading) → sum_by (λ k. g k + h k) hs ≡ sum_by g hs + sum_by h hs
by-both g h [] = refl
by-both g h (k ∷ hs) = omega (arith, sum_by-cons (λ (j : Heading). g j + h j) k hs, sum_by-cons g k hs, sum_by-cons h k hs, by-both g h hs)

one-heading : (g : Heading) (a : ℕ) → sum_by (λ h. if is_heading h (Some g) then a else 0) headings ≡ a
one-heading Run a = omega arith
one-heading Interrupt a = omega arith
one-heading Missed a = omega arith
one-heading Card a = omega arith
one-heading Serial a = omega arith
one-heading Store a = omega arith
one-heading Level a = omega arith
one-heading Forwarding a = omega arith
one-heading Bus a = omega arith
one-heading Prefetch a = omega arith
one-heading Order a = omega arith

headings-one : (o : Option Heading) (a : ℕ) → sum_by (λ h. if is_heading h o then a else 0) headings ≡ (if is_some o then a else 0)
headings-one None a = refl
headings-one (Some g) a = one-heading g a

first-of-heading : (f : TalliedRow → ℕ) (h : Heading) (x : TalliedRow) (xs : List TalliedRow)
    → sum_by f (rows_for h (x ∷ xs)) ≡ (if is_heading h (reason_of x) then f x else 0) + sum_by f (rows_for h xs)
unfolding rows_for
first-of-heading f h x xs = first-row (λ (y : TalliedRow). is_heading h (reason_of y)) f x xs

no-headings : (f : TalliedRow → ℕ) → sum_by (λ h. sum_by f (rows_for h [])) headings ≡ 0
unfolding rows_for
no-headings f = refl

pub headings-share : (f : TalliedRow → ℕ) (xs : List TalliedRow)
    → sum_by (λ h. sum_by f (rows_for h xs)) headings ≡ sum_by f (filter (λ x. is_some (reason_of x)) xs)
headings-share f [] = no-headings f
headings-share f (x ∷ xs) =
    by-same (λ h. sum_by f (rows_for h (x ∷ xs))) (λ h. (if is_heading h (reason_of x) then f x else 0) + sum_by f (rows_for h xs)) headings
    (λ h. first-of-heading f h x xs)
    ∙ by-both (λ h. if is_heading h (reason_of x) then f x else 0) (λ h. sum_by f (rows_for h xs)) headings
    ∙ ap (λ m. m + sum_by (λ h. sum_by f (rows_for h xs)) headings) (headings-one (reason_of x) (f x))
    ∙ ap (λ m. (if is_some (reason_of x) then f x else 0) + m) (headings-share f xs)
    ∙ sym (first-row (λ (y : TalliedRow). is_some (reason_of y)) f x xs)

-- ---- lost ticks

-- a row without a reason lost no ticks
lost-here : (x : TalliedRow) → (if is_some (reason_of x) then lost_by x.done else 0) ≡ lost_by x.done
unfolding heading_at
lost-here x = elim (lt-cases x.done.before x.done.row.ticks.r) [
  | inl y ↦ rw y.0 refl
  | inr n ↦ rw n.0 (omega (arith, n.1))
]

all-lost : (xs : List TalliedRow) → sum_by (λ x. lost_by x.done) (filter (λ x. is_some (reason_of x)) xs) ≡ sum_by (λ x. lost_by x.done) xs
all-lost [] = refl
all-lost (x ∷ xs) =
    first-row (λ (y : TalliedRow). is_some (reason_of y)) (λ (y : TalliedRow). lost_by y.done) x xs
    ∙ ap (λ n. n + sum_by (λ (y : TalliedRow). lost_by y.done) (filter (λ (y : TalliedRow). is_some (reason_of y)) xs)) (lost-here x)
    ∙ ap (λ n. lost_by x.done + n) (all-lost xs)
    ∙ sym (sum_by-cons (λ (y : TalliedRow). lost_by y.done) x xs)

pub lost-shared : (xs : List TalliedRow) → sum_by (λ h. lost_ticks (rows_for h xs)) headings ≡ lost_ticks xs
unfolding lost_ticks
lost-shared xs = headings-share (λ x. lost_by x.done) xs ∙ all-lost xs
