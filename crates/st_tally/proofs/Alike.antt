-- Rows that count alike in tables.
use Rattle.st_tally.proofs.Common.{nat_eq, nat_lt, if◌then◌else◌, not, length, Option, None, Some, option_map, unwrap_or, filter, sum_by, ◌≡◌, ℕ, ◌+◌, ◌-◌, ◌<◌, ◌≤◌, true, false, List, [], ◌∷◌, ◌++◌, inl, inr, refl, sym, ◌∙◌, ap, subst, arith, cases_Bool, ltb-true, ltb-false, length_push, sum_by_push, Use, ticks_for, Stage, row_stalled, StallCause, Start, Earlier, Stall, charges_of_entry, EntryDone, heading_at, heading_of, is_heading, TalliedRow, card_by_origin, card_of, reason_of, lost_by, late_by, late_of, has_level_wait, rows_of_card, rows_elsewhere, rows_for, stage_ticks, wait_ticks, lost_ticks, late_ticks, mispredicted_rows, level_rows, level_ticks, card_sum, reason_sum, IsCardSum, IsReasonSum, IsTally, Heading, CardSum, Tables}
use Rattle.std.specs.Prelude.{Bool}
use Rattle.st_ledger.specs.declared.because.StallCause.TheVariants.{Prefetch}
use Rattle.st_lines.specs.declared.lines.Why.{Why}
use Rattle.st_lines.specs.declared.origins.Origin.{Origin}
use Rattle.st_tally.proofs.CardLemmas.{filter-some, filter-none}

-- ---- a last row in place of another one

-- two rows that a test takes alike, and a function gives the same number
sum-alike : {X : Type 0} (f : X → ℕ) (p : X → Bool) (zs : List X) (x y : X) → p x ≡ p y → f x ≡ f y
    → sum_by f (filter p (zs ++ x ∷ [])) ≡ sum_by f (filter p (zs ++ y ∷ []))
sum-alike f p zs x y taken same = elim (cases_Bool (p x)) [
  | inl is ↦
      ap (sum_by f) (filter-some p zs x is)
      ∙ sum_by_push f (filter p zs) x
      ∙ ap (λ n. sum_by f (filter p zs) + n) same
      ∙ sym (sum_by_push f (filter p zs) y)
      ∙ ap (sum_by f) (sym (filter-some p zs y (sym taken ∙ is)))
  | inr is ↦ ap (sum_by f) (filter-none p zs x is ∙ sym (filter-none p zs y (sym taken ∙ is)))
]

count-alike : {X : Type 0} (p : X → Bool) (zs : List X) (x y : X) → p x ≡ p y → length (filter p (zs ++ x ∷ [])) ≡ length (filter p (zs ++ y ∷ []))
count-alike p zs x y taken = elim (cases_Bool (p x)) [
  | inl is ↦
      ap length (filter-some p zs x is)
      ∙ length_push (filter p zs) x
      ∙ sym (length_push (filter p zs) y)
      ∙ ap length (sym (filter-some p zs y (sym taken ∙ is)))
  | inr is ↦ ap length (filter-none p zs x is ∙ sym (filter-none p zs y (sym taken ∙ is)))
]

-- ---- rows that count alike

pub record AreAlike (x y : TalliedRow) : Type 0 where
  pub card : card_of x ≡ card_of y
  pub reason : reason_of x ≡ reason_of y
  pub charges : charges_of_entry x.done ≡ charges_of_entry y.done
  pub uses : x.uses ≡ y.uses
  pub before : x.before ≡ y.before
  pub lost : lost_by x.done ≡ lost_by y.done
  pub late : late_of x.done ≡ late_of y.done
  pub mispredicted : x.done.mispredicted ≡ y.done.mispredicted
  pub wait : x.done.row.level_wait ≡ y.done.row.level_wait

module _ (zs : List TalliedRow) (x y : TalliedRow) (like : AreAlike x y) where
  -- the sums of the rows that a test takes
  slot-like : (at : TalliedRow → Bool) (sum : CardSum) → at x ≡ at y → IsCardSum (filter at (zs ++ x ∷ [])) sum → IsCardSum (filter at (zs ++ y ∷ [])) sum
  unfolding stage_ticks wait_ticks
  slot-like at sum taken is = record {
    rows = is.rows ∙ count-alike at zs x y taken;
    stages = λ s. is.stages s ∙ sum-alike (λ (r : TalliedRow). ticks_for s (charges_of_entry r.done)) at zs x y taken (ap (ticks_for s) like.charges);
    waits = λ r s parted.
        is.waits r s parted
        ∙ sum-alike (λ (z : TalliedRow). row_stalled r s z.uses z.before (charges_of_entry z.done)) at zs x y taken
        (ap (λ us. row_stalled r s us x.before (charges_of_entry x.done)) like.uses
        ∙ ap (λ bs. row_stalled r s y.uses bs (charges_of_entry x.done)) like.before
        ∙ ap (row_stalled r s y.uses y.before) like.charges);
  }

  card-like : (k : ℕ) (sum : CardSum) → IsCardSum (rows_of_card k (zs ++ x ∷ [])) sum → IsCardSum (rows_of_card k (zs ++ y ∷ [])) sum
  unfolding rows_of_card
  card-like k sum is = slot-like (λ (r : TalliedRow). nat_eq (card_of r) k) sum (ap (λ n. nat_eq n k) like.card) is

  others-like : (n : ℕ) (sum : CardSum) → IsCardSum (rows_elsewhere n (zs ++ x ∷ [])) sum → IsCardSum (rows_elsewhere n (zs ++ y ∷ [])) sum
  unfolding rows_elsewhere
  others-like n sum is = slot-like (λ (r : TalliedRow). not (nat_lt (card_of r) n)) sum (ap (λ c. not (nat_lt c n)) like.card) is

  reason-like : (h : Heading) (t : Tables) → IsReasonSum (rows_for h (zs ++ x ∷ [])) (reason_sum t h) → IsReasonSum (rows_for h (zs ++ y ∷ [])) (reason_sum t h)
  unfolding rows_for lost_ticks late_ticks
  reason-like h t is =
      let at : TalliedRow → Bool = λ r. is_heading h (reason_of r) in
      let taken : at x ≡ at y = ap (is_heading h) like.reason in
      record {
        rows = is.rows ∙ count-alike at zs x y taken;
        ticks = is.ticks ∙ sum-alike (λ (r : TalliedRow). lost_by r.done) at zs x y taken like.lost;
        late = is.late ∙ sum-alike (λ (r : TalliedRow). late_of r.done) at zs x y taken like.late;
      }

  pub tally-alike : (t : Tables) → IsTally (zs ++ x ∷ []) t → IsTally (zs ++ y ∷ []) t
  unfolding mispredicted_rows level_rows level_ticks
  tally-alike t is = record {
    cards = λ k inside. card-like k (card_sum t k) (is.cards k inside);
    others = others-like (length t.cards.items) t.others is.others;
    reasons = λ h. reason-like h t (is.reasons h);
    mispredicted = is.mispredicted ∙ count-alike (λ (r : TalliedRow). r.done.mispredicted) zs x y like.mispredicted;
    level_rows = is.level_rows ∙ count-alike has_level_wait zs x y (ap (λ n. not (nat_eq n 0)) like.wait);
    level_ticks =
        is.level_ticks
        ∙ sum_by_push (λ (r : TalliedRow). r.done.row.level_wait) zs x
        ∙ ap (λ n. sum_by (λ (r : TalliedRow). r.done.row.level_wait) zs + n) like.wait
        ∙ sym (sum_by_push (λ (r : TalliedRow). r.done.row.level_wait) zs y);
  }

-- ---- the cause of an entry that lost no ticks, and whether its card's bits are there still

late-none : (c : StallCause) → late_by c 0 ≡ 0
late-none (Start tick) = refl
late-none (Prefetch x) = omega arith
late-none (Earlier x) = omega arith

heading-like : (why : Why) (d : EntryDone) (c : StallCause) → (d.before < d.row.ticks.r → d.because ≡ c)
    → heading_at why d ≡ (if nat_lt d.before d.row.ticks.r then Some (heading_of why c) else None)
unfolding heading_at
heading-like why d c same = elim (cases_Bool (nat_lt d.before d.row.ticks.r)) [
  | inl is ↦ rw (is, same (ltb-true d.before d.row.ticks.r is)) refl
  | inr is ↦ rw is refl
]

late-like : (d : EntryDone) (c : StallCause) → (d.before < d.row.ticks.r → d.because ≡ c) → late_of d ≡ late_by c (lost_by d)
late-like d c same = elim (cases_Bool (nat_lt d.before d.row.ticks.r)) [
  | inl is ↦ ap (λ x. late_by x (lost_by d)) (same (ltb-true d.before d.row.ticks.r is))
  | inr is ↦
      let late : d.row.ticks.r ≤ d.before = ltb-false d.before d.row.ticks.r is in
      let none : lost_by d ≡ 0 = omega (arith, late) in
      ap (late_by d.because) none ∙ late-none d.because ∙ sym (late-none c) ∙ ap (late_by c) (sym none)
]

same-card : (a b : Option Origin) → option_map (λ (o : Origin). o.card) a ≡ option_map (λ (o : Origin). o.card) b → card_by_origin a ≡ card_by_origin b
same-card a b same = sym (number a) ∙ ap (λ n. unwrap_or n 0) same ∙ number b
  where
    number : (a : Option Origin) → unwrap_or (option_map (λ (o : Origin). o.card) a) 0 ≡ card_by_origin a
    number None = refl
    number (Some o) = refl

-- such entries count alike
pub entries-alike : (d : EntryDone) (w : Why) (us bs : List Use) (origin : Option Origin) (c : StallCause)
    → option_map (λ (o : Origin). o.card) d.origin ≡ option_map (λ (o : Origin). o.card) origin
    → (d.before < d.row.ticks.r → d.because ≡ c)
    → AreAlike (record { done = d; why = w; uses = us; before = bs })
    (record { done = record d { origin = origin; because = c }; why = w; uses = us; before = bs })
unfolding heading_at
entries-alike d w us bs origin c card same = record {
  card = same-card d.origin origin card;
  reason = heading-like w d c same;
  charges = refl;
  uses = refl;
  before = refl;
  lost = refl;
  late = late-like d c same;
  mispredicted = refl;
  wait = refl;
}
