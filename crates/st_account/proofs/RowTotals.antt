-- Lemmas on the totals of the rows of the tables of a run.
use Rattle.st_account.proofs.Common.{cases_Bool, ◌≡◌, ◌≢◌, ℕ, zero, suc, ◌+◌, ◌-◌, true, inl, inr, List, [], ◌∷◌, refl, sym, ◌∙◌, ap, arith, rests, Machine, Scene, Moment, Standing, moment_at_start, next_moment, next_state, standing_at, ticks_for, entries_of, entries_from, charges_at, all_charges, Stage, Use, row_stalled, is_parted, Stall, charges_of_entry, Why, Run, Origin, TalliedRow, stage_ticks, wait_ticks, why_after, row_at, tallied_from, tallied_of, segment_after, segment_end_at, uses_at, words_before, stalled_from}
use Rattle.std.specs.Prelude.{Option}
use Rattle.std.proofs.lemmas.List.Sums.{sum_by-cons}
use Rattle.st_account.proofs.RunLemmas.{charges-end, charges-on, waits-end, waits-on}
use Rattle.st_account.proofs.TallyLoop.{tallied-end, tallied-on}

module _ (o : Machine → ℕ → Option Origin) (ds : List ℕ) (n : ℕ) where
  -- ---- charges

  row-charges : (s : Stage) (end : Option ℕ) (w : Why) (before : List Use) (p : Standing) (xs : List TalliedRow)
      → stage_ticks s (row_at o ds n end w before p ∷ xs) ≡ ticks_for s (charges_at ds n p) + stage_ticks s xs
  unfolding row_at stage_ticks charges_at
  row-charges s end w before p xs = sum_by-cons (λ (x : TalliedRow). ticks_for s (charges_of_entry x.done)) (row_at o ds n end w before p) xs

  no-charges : (s : Stage) → stage_ticks s [] ≡ 0
  unfolding stage_ticks
  no-charges s = refl

  pub charges-told : (s : Stage) (left k : ℕ) (w : Why) (us : List Use) (m : Moment)
      → stage_ticks s (tallied_from o ds n left k w us m) ≡ ticks_for s (all_charges ds n (entries_from ds n left m))
  charges-told s zero k w us m =
      ap (stage_ticks s) (tallied-end ds n o zero k w us m (inl refl)) ∙ no-charges s ∙ sym (charges-end ds n s zero m (inl refl))
  charges-told s (suc left) k w us m = elim (cases_Bool (rests (next_state m))) [
    | inl y ↦ ap (stage_ticks s) (tallied-end ds n o (suc left) k w us m (inr y)) ∙ no-charges s ∙ sym (charges-end ds n s (suc left) m (inr y))
    | inr z ↦
        let some : suc left ≢ 0 = λ none. absurd (omega (arith, none)) in
        let one : suc left - 1 ≡ left = omega arith in
        let p = standing_at m in
        let m' = next_moment ds n p in
        ap (stage_ticks s) (tallied-on ds n o (suc left) k w us m some z)
        ∙ row-charges s (segment_end_at (suc left - 1) m') (why_after k w m) (words_before m us) p
        (tallied_from o ds n (suc left - 1) (segment_after k m) (why_after k w m) (uses_at ds n p) m')
        ∙ ap (λ j. ticks_for s (charges_at ds n p) + stage_ticks s (tallied_from o ds n j (segment_after k m) (why_after k w m) (uses_at ds n p) m')) one
        ∙ ap (λ t. ticks_for s (charges_at ds n p) + t) (charges-told s left (segment_after k m) (why_after k w m) (uses_at ds n p) m')
        ∙ ap (λ j. ticks_for s (charges_at ds n p) + ticks_for s (all_charges ds n (entries_from ds n j m'))) (sym one)
        ∙ sym (charges-on ds n s (suc left) m some z)
  ]

  -- ---- waits

  row-waits : (r : Stage) (s : Stall) (end : Option ℕ) (w : Why) (before : List Use) (p : Standing) (xs : List TalliedRow)
      → wait_ticks r s (row_at o ds n end w before p ∷ xs) ≡ row_stalled r s (uses_at ds n p) before (charges_at ds n p) + wait_ticks r s xs
  unfolding row_at wait_ticks charges_at
  row-waits r s end w before p xs =
      sum_by-cons (λ (x : TalliedRow). row_stalled r s x.uses x.before (charges_of_entry x.done)) (row_at o ds n end w before p) xs

  no-waits : (r : Stage) (s : Stall) → wait_ticks r s [] ≡ 0
  unfolding wait_ticks
  no-waits r s = refl

  pub waits-told : (r : Stage) (s : Stall) (left k : ℕ) (w : Why) (us : List Use) (m : Moment)
      → wait_ticks r s (tallied_from o ds n left k w us m) ≡ stalled_from r s ds n left us m
  waits-told r s zero k w us m =
      ap (wait_ticks r s) (tallied-end ds n o zero k w us m (inl refl)) ∙ no-waits r s ∙ sym (waits-end ds n r s zero us m (inl refl))
  waits-told r s (suc left) k w us m = elim (cases_Bool (rests (next_state m))) [
    | inl y ↦ ap (wait_ticks r s) (tallied-end ds n o (suc left) k w us m (inr y)) ∙ no-waits r s ∙ sym (waits-end ds n r s (suc left) us m (inr y))
    | inr z ↦
        let some : suc left ≢ 0 = λ none. absurd (omega (arith, none)) in
        let one : suc left - 1 ≡ left = omega arith in
        let p = standing_at m in
        let m' = next_moment ds n p in
        let here = row_stalled r s (uses_at ds n p) (words_before m us) (charges_at ds n p) in
        ap (wait_ticks r s) (tallied-on ds n o (suc left) k w us m some z)
        ∙ row-waits r s (segment_end_at (suc left - 1) m') (why_after k w m) (words_before m us) p
        (tallied_from o ds n (suc left - 1) (segment_after k m) (why_after k w m) (uses_at ds n p) m')
        ∙ ap (λ j. here + wait_ticks r s (tallied_from o ds n j (segment_after k m) (why_after k w m) (uses_at ds n p) m')) one
        ∙ ap (λ t. here + t) (waits-told r s left (segment_after k m) (why_after k w m) (uses_at ds n p) m')
        ∙ ap (λ j. here + stalled_from r s ds n j (uses_at ds n p) m') (sym one)
        ∙ sym (waits-on ds n r s (suc left) us m some z)
  ]

  -- ---- totals that are those of all rows

  pub charges-are : (left : ℕ) (c : Scene) (total : Stage → ℕ) → ((s : Stage) → total s ≡ stage_ticks s (tallied_of o ds n left c))
      → (s : Stage) → total s ≡ ticks_for s (all_charges ds n (entries_of ds n left c))
  charges-are left c total each s = each s ∙ charges-told s left 0 Run [] (moment_at_start c)

  pub waits-are : (left : ℕ) (c : Scene) (total : Stage → Stall → ℕ)
      → ((r : Stage) (s : Stall) → is_parted r ≡ true → total r s ≡ wait_ticks r s (tallied_of o ds n left c))
      → (r : Stage) (s : Stall) → is_parted r ≡ true → total r s ≡ stalled_from r s ds n left [] (moment_at_start c)
  waits-are left c total each r s parted = each r s parted ∙ waits-told r s left 0 Run [] (moment_at_start c)
