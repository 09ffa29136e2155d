-- Lemmas on the rows of the tables of a run.
use Rattle.st_causes.proofs.Common.{Bool, false, if◌then◌else◌, map, reverse, Option, ◌≡◌, ℕ, ◌+◌, ◌-◌, List, [], ◌∷◌, ◌++◌, refl, ◌∙◌, ap, rests, Machine, Moment, Standing, next_moment, next_state, standing_at, Use, Why, Origin, TalliedRow, why_after, row_at, tallied_from, segment_after, segment_end_at, uses_at, words_before, ToldRow, told_from, facts_tallied, facts_told}
use Rattle.std.specs.Prelude.{true}
use Rattle.std.proofs.Common.{zero, suc}

module _ (o : Machine → ℕ → Option Origin) (ds : List ℕ) (n : ℕ) where
  -- ---- rows

  row-facts : (end : Option ℕ) (w : Why) (before segment : List Use) (p : Standing)
      → facts_tallied (row_at o ds n end w before p) ≡ facts_told o ds n (record { standing = p; uses = uses_at ds n p; before = before; segment = segment })
  unfolding row_at
  row-facts end w before segment p = refl

  either : (b : Bool) (x : TalliedRow) (xs : List TalliedRow) (y : ToldRow) (ys : List ToldRow) → facts_tallied x ≡ facts_told o ds n y
      → map facts_tallied xs ≡ map (facts_told o ds n) ys → map facts_tallied (if b then [] else x ∷ xs) ≡ map (facts_told o ds n) (if b then [] else y ∷ ys)
  either true x xs y ys one rest = refl
  either false x xs y ys one rest = ap (λ z. z ∷ map facts_tallied xs) one ∙ ap (λ zs. facts_told o ds n y ∷ zs) rest

  pub rows-told : (left k : ℕ) (w : Why) (us segment : List Use) (m : Moment)
      → map facts_tallied (tallied_from o ds n left k w us m) ≡ map (facts_told o ds n) (told_from ds n left us segment m)
  unfolding tallied_from told_from
  rows-told zero k w us segment m = refl
  rows-told (suc left) k w us segment m =
      let p = standing_at m in
      let all = reverse (uses_at ds n p) ++ words_before m segment in
      either (rests (next_state m)) _ _ _ _ (row-facts (segment_end_at left (next_moment ds n p)) (why_after k w m) (words_before m us) all p)
      (rows-told left (segment_after k m) (why_after k w m) (uses_at ds n p) all (next_moment ds n p))
