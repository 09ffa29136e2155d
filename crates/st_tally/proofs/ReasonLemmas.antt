-- Lemmas on the sums of headings.
use Rattle.st_tally.proofs.Common.{min, length, get_or, Option, None, Some, ◌≡◌, ◌≢◌, ℕ, ◌+◌, ◌≤◌, ◌<◌, true, false, List, [], ◌∷◌, ◌++◌, inl, inr, refl, sym, ◌∙◌, ap, subst, arith, cases_Bool, eqb-true, eqb-false, length_push, get_or-set_same, get_or-set_other, sum_by_push, StallCause, Start, Earlier, EntryDone, heading_number, is_heading, IsReasonSumWithin, IsInOrder, with_entry, with_reason, TalliedRow, reason_of, lost_by, late_by, late_of, rows_for, lost_ticks, late_ticks, no_reason_sum, IsReasonSum, Heading, Run, Interrupt, Missed, Card, Serial, Store, Level, Forwarding, Bus, Prefetch, Order, ReasonSum}
use Rattle.st_ledger.specs.declared.because.StallCause.TheVariants.{Prefetch as ForPrefetch}
use Rattle.st_tally.proofs.CardLemmas.{filter-some, filter-none}

number-inside : (h : Heading) → heading_number h < 11
number-inside Run = omega arith
number-inside Interrupt = omega arith
number-inside Missed = omega arith
number-inside Card = omega arith
number-inside Serial = omega arith
number-inside Store = omega arith
number-inside Level = omega arith
number-inside Forwarding = omega arith
number-inside Bus = omega arith
number-inside Prefetch = omega arith
number-inside Order = omega arith

-- ---- one heading

reason-more : (ys : List TalliedRow) (x : TalliedRow) (old : ReasonSum) → IsReasonSum ys old → IsReasonSum (ys ++ x ∷ []) (with_entry x.done old)
unfolding lost_ticks late_ticks
reason-more ys x old is = record {
  rows = ap (λ n. n + 1) is.rows ∙ sym (length_push ys x);
  ticks = ap (λ n. n + lost_by x.done) is.ticks ∙ sym (sum_by_push (λ (y : TalliedRow). lost_by y.done) ys x);
  late = ap (λ n. n + late_of x.done) is.late ∙ sym (sum_by_push (λ (y : TalliedRow). late_of y.done) ys x);
}

rows-own : (h : Heading) (xs : List TalliedRow) (x : TalliedRow) → is_heading h (reason_of x) ≡ true → rows_for h (xs ++ x ∷ []) ≡ rows_for h xs ++ x ∷ []
unfolding rows_for
rows-own h xs x is = filter-some (λ (y : TalliedRow). is_heading h (reason_of y)) xs x is

rows-other : (h : Heading) (xs : List TalliedRow) (x : TalliedRow) → is_heading h (reason_of x) ≡ false → rows_for h (xs ++ x ∷ []) ≡ rows_for h xs
unfolding rows_for
rows-other h xs x is = filter-none (λ (y : TalliedRow). is_heading h (reason_of y)) xs x is

-- ---- all headings

reasons-by : (o : Option Heading) (xs : List TalliedRow) (x : TalliedRow) (old : List ReasonSum) (h : Heading) → reason_of x ≡ o → 11 ≤ length old
    → IsReasonSum (rows_for h xs) (get_or old (heading_number h) no_reason_sum)
    → IsReasonSum (rows_for h (xs ++ x ∷ [])) (get_or (with_reason o x.done old) (heading_number h) no_reason_sum)
reasons-by None xs x old h none long is =
    let not : is_heading h (reason_of x) ≡ false = rw none refl in
    subst (λ ys. IsReasonSum ys (get_or old (heading_number h) no_reason_sum)) (sym (rows-other h xs x not)) is
reasons-by (Some g) xs x old h some long is = elim (cases_Bool (is_heading h (Some g))) [
  | inl y ↦
      let at : heading_number h ≡ heading_number g = eqb-true (heading_number h) (heading_number g) y in
      let own : is_heading h (reason_of x) ≡ true = rw some y in
      let sum : ReasonSum = get_or old (heading_number g) no_reason_sum in
      let new : get_or (with_reason (Some g) x.done old) (heading_number h) no_reason_sum ≡ with_entry x.done sum =
      ap (λ i. get_or (with_reason (Some g) x.done old) i no_reason_sum) at
      ∙ get_or-set_same old (heading_number g) (with_entry x.done sum) no_reason_sum (omega (arith, long, number-inside g)) in
      subst (IsReasonSum (rows_for h (xs ++ x ∷ []))) (sym new)
      (subst (λ ys. IsReasonSum ys (with_entry x.done sum)) (sym (rows-own h xs x own))
      (reason-more (rows_for h xs) x sum (subst (λ i. IsReasonSum (rows_for h xs) (get_or old i no_reason_sum)) at is)))
  | inr n ↦
      let apart : heading_number h ≢ heading_number g = eqb-false (heading_number h) (heading_number g) n in
      let other : is_heading h (reason_of x) ≡ false = rw some n in
      let sum : ReasonSum = get_or old (heading_number g) no_reason_sum in
      subst (IsReasonSum (rows_for h (xs ++ x ∷ []))) (sym (get_or-set_other old (heading_number g) (heading_number h) (with_entry x.done sum) no_reason_sum apart))
      (subst (λ ys. IsReasonSum ys (get_or old (heading_number h) no_reason_sum)) (sym (rows-other h xs x other)) is)
]

pub reasons-more : (xs : List TalliedRow) (x : TalliedRow) (old new : List ReasonSum) (h : Heading) → 11 ≤ length old
    → new ≡ with_reason (reason_of x) x.done old → IsReasonSum (rows_for h xs) (get_or old (heading_number h) no_reason_sum)
    → IsReasonSum (rows_for h (xs ++ x ∷ [])) (get_or new (heading_number h) no_reason_sum)
reasons-more xs x old new h long added is =
    subst (λ (ys : List ReasonSum). IsReasonSum (rows_for h (xs ++ x ∷ [])) (get_or ys (heading_number h) no_reason_sum)) (sym added)
    (reasons-by (reason_of x) xs x old h refl long is)

-- ---- bounds

min-most : (l n : ℕ) → min l n ≤ n
min-most l n = omega arith

late-bound : (b : StallCause) (lost : ℕ) → late_by b lost ≤ lost
late-bound (Start tick) lost = omega arith
late-bound (ForPrefetch x) lost = min-most x.late lost
late-bound (Earlier x) lost = min-most x.late lost

late-most : (d : EntryDone) → late_of d ≤ lost_by d
late-most d = late-bound d.because (lost_by d)

entry-within : (d : EntryDone) (sum : ReasonSum) → IsInOrder d → IsReasonSumWithin d.before sum → IsReasonSumWithin d.row.ticks.c (with_entry d sum)
entry-within d sum order is = record {
  rows = omega (arith, order.later, is.rows);
  ticks = omega (arith, order.later, order.ready, is.ticks);
  late = omega (arith, order.later, order.ready, is.late, late-most d);
}

reason-later : (d : EntryDone) (sum : ReasonSum) → IsInOrder d → IsReasonSumWithin d.before sum → IsReasonSumWithin d.row.ticks.c sum
reason-later d sum order is = record {
  rows = omega (arith, order.later, is.rows);
  ticks = omega (arith, order.later, is.ticks);
  late = omega (arith, order.later, is.late);
}

within-by : (o : Option Heading) (d : EntryDone) (old : List ReasonSum) (h : Heading) → 11 ≤ length old → IsInOrder d
    → ((g : Heading) → IsReasonSumWithin d.before (get_or old (heading_number g) no_reason_sum))
    → IsReasonSumWithin d.row.ticks.c (get_or (with_reason o d old) (heading_number h) no_reason_sum)
within-by None d old h long order is = reason-later d (get_or old (heading_number h) no_reason_sum) order (is h)
within-by (Some g) d old h long order is = elim (cases_Bool (is_heading h (Some g))) [
  | inl y ↦
      let at : heading_number h ≡ heading_number g = eqb-true (heading_number h) (heading_number g) y in
      let sum : ReasonSum = get_or old (heading_number g) no_reason_sum in
      let new : get_or (with_reason (Some g) d old) (heading_number h) no_reason_sum ≡ with_entry d sum =
      ap (λ i. get_or (with_reason (Some g) d old) i no_reason_sum) at
      ∙ get_or-set_same old (heading_number g) (with_entry d sum) no_reason_sum (omega (arith, long, number-inside g)) in
      subst (IsReasonSumWithin d.row.ticks.c) (sym new) (entry-within d sum order (is g))
  | inr n ↦
      let apart : heading_number h ≢ heading_number g = eqb-false (heading_number h) (heading_number g) n in
      let sum : ReasonSum = get_or old (heading_number g) no_reason_sum in
      subst (IsReasonSumWithin d.row.ticks.c) (sym (get_or-set_other old (heading_number g) (heading_number h) (with_entry d sum) no_reason_sum apart))
      (reason-later d (get_or old (heading_number h) no_reason_sum) order (is h))
]

pub reasons-within : (o : Option Heading) (d : EntryDone) (old new : List ReasonSum) (h : Heading) → 11 ≤ length old → IsInOrder d
    → new ≡ with_reason o d old → ((g : Heading) → IsReasonSumWithin d.before (get_or old (heading_number g) no_reason_sum))
    → IsReasonSumWithin d.row.ticks.c (get_or new (heading_number h) no_reason_sum)
reasons-within o d old new h long order added is =
    subst (λ (ys : List ReasonSum). IsReasonSumWithin d.row.ticks.c (get_or ys (heading_number h) no_reason_sum)) (sym added)
    (within-by o d old h long order is)
