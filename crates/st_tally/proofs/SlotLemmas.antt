-- Lemmas on the ticks of all slots together.
use Rattle.st_tally.proofs.Common.{length, get_or, sum_by, ◌≡◌, ◌≢◌, ℕ, zero, suc, ◌+◌, ◌-◌, ◌≤◌, ◌<◌, true, List, [], ◌∷◌, inl, inr, refl, sym, ◌∙◌, ap, subst, arith, cond_both, eqb_tells, Use, is_stage, all_ticks, ticks_for, sum_at, waited_at, row_stalled, is_parted, AreWordsInTime, Charge, Stage, Stall, lt-cases, charges_of_entry, EntryDone, sum_below, IsInOrder, AddsCard, slots_ticks, slots_waited, TalliedRow, rows_of_card, rows_elsewhere, stage_ticks, wait_ticks, card_by_origin, no_card_sum, card_sum, IsTally, CardSum, Tables}
use Rattle.st_tally.proofs.SharedRows.{slots-share}
use Rattle.st_tally.proofs.WaitSums.{row-most}

-- ---- sums over numbers

below-those : (g h : ℕ → ℕ) (n : ℕ) → ((k : ℕ) → k < n → g k ≡ h k) → sum_below g n ≡ sum_below h n
unfolding sum_below
below-those g h zero each = refl
below-those g h (suc n) each = omega (arith, below-those g h n (λ k less. each k (omega (arith, less))), each n (omega arith))

-- one of the numbers is greater
below-more : (g h : ℕ → ℕ) (c a n : ℕ) → c < n → h c ≡ g c + a → ((k : ℕ) → k ≢ c → h k ≡ g k) → sum_below h n ≡ sum_below g n + a
unfolding sum_below
below-more g h c a zero low own others = absurd (omega (arith, low))
below-more g h c a (suc n) low own others = elim (eqb_tells c n) [
  | inl y ↦
      let same : sum_below h n ≡ sum_below g n = below-those h g n (λ k less. others k (λ at. absurd (omega (arith, less, at, y.1)))) in
      let here : h n ≡ g n + a = subst (λ k. h k ≡ g k + a) y.1 own in
      omega (arith, same, here)
  | inr m ↦ omega (arith, below-more g h c a n (omega (arith, low, m.1)) own others, others n (λ at. m.1 (sym at)))
]

-- a part of a sum
pub below-part : (g : ℕ → ℕ) (k n : ℕ) → k ≤ n → sum_below g k ≤ sum_below g n
unfolding sum_below
below-part g k zero few = let none : k ≡ zero = omega (arith, few) in rw none (omega arith)
below-part g k (suc n) few = elim (eqb_tells k (suc n)) [
  | inl y ↦ rw y.1 (omega arith)
  | inr m ↦ omega (arith, below-part g k n (omega (arith, few, m.1)))
]

-- ---- an entry is added to one slot

module _ (g : CardSum → ℕ) (a : ℕ) (old new : List CardSum) (before after : CardSum) (c : ℕ) (size : length new ≡ length old)
    (own : c < length old → g (get_or new c no_card_sum) ≡ g (get_or old c no_card_sum) + a)
    (apart : (k : ℕ) → k ≢ c → get_or new k no_card_sum ≡ get_or old k no_card_sum)
    (kept : c < length old → after ≡ before) (more : length old ≤ c → g after ≡ g before + a) where
  slots-more : g after + sum_below (λ k. g (get_or new k no_card_sum)) (length new)
      ≡ (g before + sum_below (λ k. g (get_or old k no_card_sum)) (length old)) + a
  slots-more = elim (lt-cases c (length old)) [
    | inl y ↦
        let sums : sum_below (λ k. g (get_or new k no_card_sum)) (length old) ≡ sum_below (λ k. g (get_or old k no_card_sum)) (length old) + a =
        below-more (λ k. g (get_or old k no_card_sum)) (λ k. g (get_or new k no_card_sum)) c a (length old) y.1 (own y.1) (λ k other. ap g (apart k other)) in
        omega (arith, ap (λ n. sum_below (λ k. g (get_or new k no_card_sum)) n) size, sums, ap g (kept y.1))
    | inr m ↦
        let sums : sum_below (λ k. g (get_or new k no_card_sum)) (length old) ≡ sum_below (λ k. g (get_or old k no_card_sum)) (length old) =
        below-those (λ k. g (get_or new k no_card_sum)) (λ k. g (get_or old k no_card_sum)) (length old)
        (λ k less. ap g (apart k (λ at. absurd (omega (arith, less, at, m.1))))) in
        omega (arith, ap (λ n. sum_below (λ k. g (get_or new k no_card_sum)) n) size, sums, more m.1)
  ]

ticks-most : (s : Stage) (xs : List Charge) → ticks_for s xs ≤ all_ticks xs
unfolding ticks_for all_ticks
ticks-most s [] = omega arith
ticks-most s (x ∷ xs) =
    cond_both (is_stage s x.stage) (x.to - x.from) 0 (λ n. n + ticks_for s xs ≤ (x.to - x.from) + all_ticks xs)
    (λ same. omega (arith, ticks-most s xs))
    (λ other. omega (arith, ticks-most s xs))

module _ (d : EntryDone) (uses before : List Use) (old new : List CardSum) (rest rest' : CardSum) (order : IsInOrder d) (size : length new ≡ length old)
    (own : card_by_origin d.origin < length old
    → AddsCard d uses before (get_or old (card_by_origin d.origin) no_card_sum) (get_or new (card_by_origin d.origin) no_card_sum))
    (apart : (k : ℕ) → k ≢ card_by_origin d.origin → get_or new k no_card_sum ≡ get_or old k no_card_sum)
    (kept : card_by_origin d.origin < length old → rest' ≡ rest) (more : length old ≤ card_by_origin d.origin → AddsCard d uses before rest rest') where
  pub stages-within : (s : Stage) → sum_at s rest.sums + sum_below (λ k. sum_at s (get_or old k no_card_sum).sums) (length old) ≤ d.before
      → sum_at s rest'.sums + sum_below (λ k. sum_at s (get_or new k no_card_sum).sums) (length new) ≤ d.row.ticks.c
  stages-within s is =
      omega (
        arith,
        is,
        order.reach,
        ticks-most s (charges_of_entry d),
        slots-more (λ (x : CardSum). sum_at s x.sums) (ticks_for s (charges_of_entry d)) old new rest rest' (card_by_origin d.origin) size
            (λ low. (own low).stages s) apart kept (λ high. (more high).stages s),
      )

  pub waits-within : (r : Stage) (s : Stall) → is_parted r ≡ true → AreWordsInTime uses → AreWordsInTime before
      → waited_at r s rest.waits + sum_below (λ k. waited_at r s (get_or old k no_card_sum).waits) (length old) ≤ d.before
      → waited_at r s rest'.waits + sum_below (λ k. waited_at r s (get_or new k no_card_sum).waits) (length new) ≤ d.row.ticks.c
  waits-within r s parted used earlier is =
      omega (
        arith,
        is,
        order.reach,
        row-most r s uses before (charges_of_entry d) used earlier,
        slots-more (λ (x : CardSum). waited_at r s x.waits) (row_stalled r s uses before (charges_of_entry d)) old new rest rest' (card_by_origin d.origin) size
            (λ low. (own low).waits r s parted) apart kept (λ high. (more high).waits r s parted),
      )

-- ---- all slots together have the ticks of all rows

pub slots-ticks-are : (xs : List TalliedRow) (t : Tables) (s : Stage) → IsTally xs t → slots_ticks s t ≡ stage_ticks s xs
unfolding stage_ticks
slots-ticks-are xs t s is =
    let f : TalliedRow → ℕ = λ x. ticks_for s (charges_of_entry x.done) in
    ap (λ m. m + sum_below (λ k. sum_at s (card_sum t k).sums) (length t.cards.items)) (is.others.stages s)
    ∙ ap (λ m. sum_by f (rows_elsewhere (length t.cards.items) xs) + m)
    (below-those (λ k. sum_at s (card_sum t k).sums) (λ k. sum_by f (rows_of_card k xs)) (length t.cards.items) (λ k less. (is.cards k less).stages s))
    ∙ slots-share f (length t.cards.items) xs

pub slots-waited-are : (xs : List TalliedRow) (t : Tables) (r : Stage) (s : Stall) → is_parted r ≡ true → IsTally xs t → slots_waited r s t ≡ wait_ticks r s xs
unfolding wait_ticks
slots-waited-are xs t r s parted is =
    let f : TalliedRow → ℕ = λ x. row_stalled r s x.uses x.before (charges_of_entry x.done) in
    ap (λ m. m + sum_below (λ k. waited_at r s (card_sum t k).waits) (length t.cards.items)) (is.others.waits r s parted)
    ∙ ap (λ m. sum_by f (rows_elsewhere (length t.cards.items) xs) + m)
    (below-those (λ k. waited_at r s (card_sum t k).waits) (λ k. sum_by f (rows_of_card k xs)) (length t.cards.items) (λ k less. (is.cards k less).waits r s parted))
    ∙ slots-share f (length t.cards.items) xs
