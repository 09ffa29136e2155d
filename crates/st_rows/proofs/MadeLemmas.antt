-- Reads that are accepted before a tick.
use Rattle.st_rows.proofs.Common.{nat_lt, ◌≡◌, ℕ, ◌+◌, ◌<◌, ◌≤◌, true, false, List, [], ◌∷◌, ◌++◌, All, refl, inl, inr, ◌⊎◌, arith, cases_Bool, ltb-true, lt-ltb, ltb-false, All-head, bus_after_reads, made_before, accept_at, Read, after_one, Bus}
use Rattle.st_rows.proofs.Served.{free-one_if}

-- a read is accepted before a tick, at it, or later
pub before-cases : (a t : ℕ) → ((nat_lt a t ≡ true) × (a < t)) ⊎ ((nat_lt a t ≡ false) × (t ≤ a))
before-cases a t = elim (cases_Bool (nat_lt a t)) [ inl y ↦ inl (y, ltb-true a t y) | inr n ↦ inr (n, ltb-false a t n) ]

pub not-before : (a t : ℕ) → t ≤ a → nat_lt a t ≡ false
not-before a t late = elim (before-cases a t) [ inl y ↦ let no : ⊥ = omega (arith, y.1) in absurd no | inr n ↦ n.0 ]

module _ (ds : List ℕ) where
  -- the bus is free one tick after a read
  pub free-one : (b : Bus) (r : Read) → (after_one ds b r).free ≡ accept_at b r.w r.want + 1
  free-one b r = free-one_if ds r.fetch b r.w r.want

  -- ---- the first free tick only increases

  pub free-served : (xs : List Read) (b : Bus) → b.free ≤ (bus_after_reads ds xs b).free
  unfolding bus_after_reads
  free-served [] b = omega arith
  free-served (r ∷ xs) b = omega (arith, free-one b r, free-served xs (after_one ds b r))

  -- ---- all reads are accepted before the tick

  pub all-made : (t : ℕ) (xs : List Read) (b : Bus) → (bus_after_reads ds xs b).free ≤ t → made_before ds t xs b ≡ bus_after_reads ds xs b
  unfolding made_before bus_after_reads
  all-made t [] b low = refl
  all-made t (r ∷ xs) b low =
      let early : accept_at b r.w r.want < t = omega (arith, free-one b r, free-served xs (after_one ds b r)) in
      rw (lt-ltb (accept_at b r.w r.want) t early) (all-made t xs (after_one ds b r) low)

  -- if all of the first reads are accepted before the tick, the others follow on the bus after them
  pub made-behind : (t : ℕ) (xs ys : List Read) (b : Bus) → (bus_after_reads ds xs b).free ≤ t → made_before ds t (xs ++ ys) b ≡ made_before ds t ys (bus_after_reads ds xs b)
  unfolding made_before bus_after_reads
  made-behind t [] ys b low = refl
  made-behind t (r ∷ xs) ys b low =
      let early : accept_at b r.w r.want < t = omega (arith, free-one b r, free-served xs (after_one ds b r)) in
      rw (lt-ltb (accept_at b r.w r.want) t early) (made-behind t xs ys (after_one ds b r) low)

  -- ---- no read is accepted before the tick

  -- later reads that are requested at the tick or later do not affect the reads accepted before it
  pub made-more : (t : ℕ) (xs ys : List Read) (b : Bus) → All (λ (r : Read). t ≤ r.want) ys → made_before ds t (xs ++ ys) b ≡ made_before ds t xs b
  unfolding made_before
  made-more t [] [] b late = refl
  made-more t [] (r ∷ ys) b late = rw (not-before (accept_at b r.w r.want) t (omega (arith, All-head (λ (r : Read). t ≤ r.want) r ys late))) refl
  made-more t (x ∷ xs) ys b late = elim (before-cases (accept_at b x.w x.want) t) [
    | inl y ↦ rw y.0 (made-more t xs ys (after_one ds b x) late)
    | inr n ↦ rw n.0 refl
  ]
