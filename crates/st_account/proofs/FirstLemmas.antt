-- Lemmas on the first cards whose bits begin in half-words, row by row.
use Rattle.st_account.proofs.Common.{nat_eq, IfSome, All, slice_index, slice_set, ◌≡◌, ◌≢◌, ℕ, zero, suc, ◌<◌, ◌≤◌, inl, inr, true, false, List, ◌∷◌, length, drop, get_or, get_or-set_other, refl, sym, ◌∙◌, ap, arith, cases_eq, nat_tests, get_or-set_same, Assembly, Machine, card_by, is_kept, origin_by, origin_at, Origins, beginning, first_card, origin_of}
use Rattle.std.specs.Prelude.{Option, None, Some}
use Rattle.std.specs.Option.{option_or}
use Rattle.std.proofs.Math.ListN.{drop_of_length-le}
use Rattle.std.proofs.Math.Path.{fun_ext}
use Rattle.st_asm.specs.declared.valuing.Listed.{Listed}

-- ---- one row

same-half : (h : ℕ) → nat_eq h h ≡ true
same-half h = grind (arith, nat_tests)

other-half : (b h : ℕ) → b ≢ h → nat_eq b h ≡ false
other-half b h other = grind (arith, nat_tests)

-- the half-word in which the bits of a row begin
first-here : (row : Listed) (rows : List Listed) (h : ℕ) → beginning row ≡ Some h → first_card (row ∷ rows) h ≡ Some row.card
unfolding first_card
first-here row rows h is = rw (is, same-half h) refl

-- the half-words in which the bits of a row do not begin
first-other : (row : Listed) (rows : List Listed) (b h : ℕ) → beginning row ≡ Some b → b ≢ h → first_card (row ∷ rows) h ≡ first_card rows h
unfolding first_card
first-other row rows b h is other = rw (is, other-half b h other) refl

-- a row that assembles to no bits
first-none : (row : Listed) (rows : List Listed) (h : ℕ) → beginning row ≡ None → first_card (row ∷ rows) h ≡ first_card rows h
unfolding first_card
first-none row rows h is = rw is refl

card-some : (n : ℕ) (o : Option ℕ) → n ≢ 0 → option_or (card_by n) o ≡ Some n
card-some zero o some = absurd (some refl)
card-some (suc n) o some = refl

-- ---- a row is entered

pub row-free : (xs : List ℕ) (row : Listed) (rows : List Listed) (b h : ℕ) → beginning row ≡ Some b → b < length xs → 1 ≤ row.card → slice_index xs b ≡ 0
    → option_or (card_by (slice_index (slice_set xs b row.card) h)) (first_card rows h) ≡ option_or (card_by (slice_index xs h)) (first_card (row ∷ rows) h)
row-free xs row rows b h is inside some free = elim (cases_eq b h) [
  | inl here ↦
      let now : slice_index (slice_set xs b row.card) h ≡ row.card = ap (λ k. slice_index (slice_set xs b row.card) k) (sym here) ∙ get_or-set_same xs b row.card 0 inside in
      let before : slice_index xs h ≡ 0 = ap (slice_index xs) (sym here) ∙ free in
      ap (λ n. option_or (card_by n) (first_card rows h)) now
      ∙ card-some row.card (first_card rows h) (λ none. omega (arith, none, some))
      ∙ sym (first-here row rows h (is ∙ ap Some here))
      ∙ ap (λ n. option_or (card_by n) (first_card (row ∷ rows) h)) (sym before)
  | inr other ↦
      let now : slice_index (slice_set xs b row.card) h ≡ slice_index xs h = get_or-set_other xs b h row.card 0 (λ e. other (sym e)) in
      ap (λ n. option_or (card_by n) (first_card rows h)) now
      ∙ ap (option_or (card_by (slice_index xs h))) (sym (first-other row rows b h is other))
]

pub row-taken : (xs : List ℕ) (row : Listed) (rows : List Listed) (b h : ℕ) → beginning row ≡ Some b → slice_index xs b ≢ 0
    → option_or (card_by (slice_index xs h)) (first_card rows h) ≡ option_or (card_by (slice_index xs h)) (first_card (row ∷ rows) h)
row-taken xs row rows b h is taken = elim (cases_eq b h) [
  | inl here ↦
      let some : slice_index xs h ≢ 0 = λ none. taken (ap (slice_index xs) here ∙ none) in
      card-some (slice_index xs h) (first_card rows h) some
      ∙ sym (card-some (slice_index xs h) (first_card (row ∷ rows) h) some)
  | inr other ↦ ap (option_or (card_by (slice_index xs h))) (sym (first-other row rows b h is other))
]

-- a row that assembles to no bits is not entered
pub first-skipped : (xs : List ℕ) (row : Listed) (rows : List Listed) (h : ℕ) → beginning row ≡ None
    → option_or (card_by (slice_index xs h)) (first_card rows h) ≡ option_or (card_by (slice_index xs h)) (first_card (row ∷ rows) h)
first-skipped xs row rows h is = ap (option_or (card_by (slice_index xs h))) (sym (first-none row rows h is))

-- ---- all rows

-- The table has the cards of the rows before the i-th, so together with the remaining rows it has
-- all.
pub record IsFilling (rows : List Listed) (cards : List ℕ) (i : ℕ) : Type 0 where
  pub within : All (λ row. IfSome (beginning row) (λ h. h < length cards)) rows
  pub told : (h : ℕ) → option_or (card_by (slice_index cards h)) (first_card (drop i rows) h) ≡ first_card rows h

or-none : (o : Option ℕ) → option_or o None ≡ o
or-none None = refl
or-none (Some x) = refl

pub filling-ends : (rows : List Listed) (cards : List ℕ) (i : ℕ) → IsFilling rows cards i → length rows ≤ i → (h : ℕ)
    → card_by (slice_index cards h) ≡ first_card rows h
unfolding first_card
filling-ends rows cards i is past h =
    sym (or-none (card_by (slice_index cards h)))
    ∙ ap (λ xs. option_or (card_by (slice_index cards h)) (first_card xs h)) (sym (drop_of_length-le rows past))
    ∙ is.told h

-- ---- the length of the table

-- the bits of the rows before the i-th begin below half-word n
abbrev pub AreWithin : List Listed → ℕ → ℕ → Type 0
AreWithin rows i n = (k : ℕ) (d : Listed) → k < i → IfSome (beginning (get_or rows k d)) (λ h. h < n)

-- ---- the program

pub origins-are : (o : Origins) (a : Assembly) → ((h : ℕ) → card_by (slice_index o.cards.items h) ≡ first_card a.rows h) → o.image.items ≡ a.image → origin_at o ≡ origin_of a
unfolding origin_at origin_of
origins-are o a cards image = fun_ext (λ (s : Machine). fun_ext (λ h.
    ap (λ c. origin_by c (is_kept o.image.items s.words h)) (cards h)
    ∙ ap (λ xs. origin_by (first_card a.rows h) (is_kept xs s.words h)) image))
