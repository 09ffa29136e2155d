-- The turns that a read waits for are those of the reads before it.
use Rattle.st_ledger.proofs.Common.{Bool, nat_lt, nat_le, All, list_any, ◌≡◌, ℕ, ◌+◌, ◌≤◌, ◌<◌, inl, inr, max, true, false, List, [], ◌∷◌, ◌++◌, refl, sym, ◌∙◌, ap, arith, cond_both, cases_Bool, and_from, and_left, le-leb, leb-false, lt-ltb, eq-eqb, leb-true, or_left, or_right, All-nil, All-cons, All-append, Use, Accepted, Stall, Turn, Bank, Storage, is_read, read_of, wait_piece, acceptance_of, is_accepted_between, turns, has_cause, is_cause, IsTrueOf}
use Rattle.st_ledger.proofs.Linked.{turn_at, want_at, ComesBehind, AreLinked}
use Rattle.st_ledger.proofs.WordLemmas.{tick-of, turn-read, turn-other}

-- ---- pieces

pub piece-true : (us : List Use) (from to : ℕ) (why : Stall) (w v : ℕ)
    → ((t : ℕ) → from ≤ t → t < to → list_any (is_cause why v to t) us ≡ true) → All (IsTrueOf us) (wait_piece from to why w v)
unfolding wait_piece
piece-true us from to why w v is =
    cond_both (nat_lt from to) _ _ (λ xs. All (IsTrueOf us) xs)
    (λ some. All-cons (IsTrueOf us) _ [] is (All-nil (IsTrueOf us)))
    (λ none. All-nil (IsTrueOf us))

-- ---- one read

module _ (us : List Use) (n : Use) (is : is_read n.supply ≡ true) (among : (p : Use → Bool) → p n ≡ true → list_any p us ≡ true) where
  own : (why : Stall) (to t : ℕ) → has_cause why to t (read_of n.supply) ≡ true → list_any (is_cause why n.word to t) us ≡ true
  own why to t h = among (is_cause why n.word to t) (and_from _ _ (and_from _ _ is (eq-eqb n.word n.word refl)) h)

  pub turn-true : (to t : ℕ) → t ≡ (read_of n.supply).accept → list_any (is_cause Turn n.word to t) us ≡ true
  unfolding has_cause
  turn-true to t at = own Turn to t (eq-eqb _ _ (sym at))

  pub bank-true : (t : ℕ) → (read_of n.supply).want ≤ t → (read_of n.supply).turn ≤ t → t < (read_of n.supply).free
      → list_any (is_cause Bank n.word (read_of n.supply).accept t) us ≡ true
  unfolding has_cause
  bank-true t want turn free =
      own Bank (read_of n.supply).accept t (and_from _ _ (le-leb _ _ want) (and_from _ _ (le-leb _ _ turn) (and_from _ _ (lt-ltb _ _ free) (eq-eqb _ _ refl))))

  pub storage-true : (to t : ℕ) → (read_of n.supply).accept ≤ t → t < (read_of n.supply).answer → list_any (is_cause Storage n.word to t) us ≡ true
  unfolding has_cause
  storage-true to t late early = own Storage to t (and_from _ _ (le-leb _ _ late) (lt-ltb _ _ early))

-- ---- reads that come too early are not among the turns

not-between : (from before : ℕ) (u : Use) → (read_of u.supply).accept < from → is_accepted_between from before u.supply ≡ false
unfolding is_accepted_between
not-between from before u early = grind (arith, early)

not-read : (from before : ℕ) (u : Use) → is_read u.supply ≡ false → is_accepted_between from before u.supply ≡ false
unfolding is_accepted_between
not-read from before u none = and_left _ _ none

between : (from before : ℕ) (u : Use) → is_read u.supply ≡ true → from ≤ (read_of u.supply).accept → (read_of u.supply).accept < before
    → is_accepted_between from before u.supply ≡ true
unfolding is_accepted_between
between from before u is late early = and_from _ _ is (and_from _ _ (le-leb _ _ late) (lt-ltb _ _ early))

-- ---- the youngest word in relation to those after it

want-read : (u : Use) (older : List Use) → is_read u.supply ≡ true → want_at (u ∷ older) ≡ (read_of u.supply).want
unfolding want_at
want-read u older is = rw is refl

want-other : (u : Use) (older : List Use) → is_read u.supply ≡ false → want_at (u ∷ older) ≡ want_at older
unfolding want_at
want-other u older none = rw none refl

pub turns-none : (base from w : ℕ) (next : Accepted) (older : List Use) → AreLinked base older → turn_at base older ≤ from
    → turns from w next older ≡ wait_piece from next.tick Bank w next.word
unfolding turns AreLinked
turns-none base from w next [] linked low = refl
turns-none base from w next (u ∷ older) linked low =
    elim (cases_Bool (is_read u.supply)) [
      | inl y ↦
          let at = turn-read base u older y in
          let early : (read_of u.supply).accept < from = omega (arith, at, low) in
          rw (not-between from next.tick u early)
          (turns-none base from w next older linked.1 (omega (arith, early, linked.0.turn y, linked.0.accept y)))
      | inr n ↦
          rw (not-read from next.tick u n) (turns-none base from w next older linked.1 (omega (arith, turn-other base u older n, low)))
    ]

-- ---- all turns of a read

nothing : (base : ℕ) → turn_at base [] ≡ base
unfolding turn_at
nothing base = refl

module _ (us : List Use) (base from w : ℕ) (early : base ≤ from) where
  -- the last piece is true: the next read n waits for its bank from tick `from` on
  last-true : (n : Use) (next : Accepted) → is_read n.supply ≡ true → ((p : Use → Bool) → p n ≡ true → list_any p us ≡ true)
      → next ≡ acceptance_of n → (read_of n.supply).accept ≡ max (max (read_of n.supply).want (read_of n.supply).turn) (read_of n.supply).free
      → (t : ℕ) → (read_of n.supply).want ≤ t → (read_of n.supply).turn ≤ t
      → All (IsTrueOf us) (wait_piece t next.tick Bank w next.word)
  unfolding acceptance_of
  last-true n next is among same accept t want turn =
      rw same (piece-true us t (read_of n.supply).accept Bank w n.word
      (λ s late less. bank-true us n is among s (omega (arith, late, want)) (omega (arith, late, turn)) (omega (arith, accept, late, less, want, turn))))

  pub turns-true : (n : Use) (next : Accepted) (older : List Use) → AreLinked base older → is_read n.supply ≡ true
      → ((p : Use → Bool) → p n ≡ true → list_any p us ≡ true) → ((p : Use → Bool) → list_any p older ≡ true → list_any p us ≡ true)
      → next ≡ acceptance_of n → ComesBehind base n older → (read_of n.supply).want ≤ from
      → All (IsTrueOf us) (turns from w next older)
  unfolding turns AreLinked
  turns-true n next [] linked is among all same comes want =
      last-true n next is among same (comes.accept is) from want (omega (arith, comes.turn is, nothing base, early))
  turns-true n next (u ∷ older) linked is among all same comes want =
      elim (cases_Bool (is_read u.supply)) [
        | inl y ↦
            let turn = comes.turn is ∙ turn-read base u older y in
            let tick : next.tick ≡ (read_of n.supply).accept = ap (λ a. a.tick) same ∙ tick-of n in
            elim (cases_Bool (nat_le from (read_of u.supply).accept)) [
              | inl late ↦
                  let first : from ≤ (read_of u.supply).accept = leb-true _ _ late in
                  let here : (p : Use → Bool) → p u ≡ true → list_any p us ≡ true = λ p h. all p (or_left _ _ h) in
                  let wanted : (read_of u.supply).want ≤ from = omega (arith, want, comes.want is, want-read u older y) in
                  rw (between from next.tick u y first (omega (arith, tick, turn, comes.accept is)))
                  (All-append (IsTrueOf us) (wait_piece ((acceptance_of u).tick + 1) next.tick Bank w next.word)
                  (wait_piece (acceptance_of u).tick ((acceptance_of u).tick + 1) Turn w u.word ++ turns from w (acceptance_of u) older)
                  (last-true n next is among same (comes.accept is) ((acceptance_of u).tick + 1) (omega (arith, want, first, tick-of u)) (omega (arith, turn, tick-of u)))
                  (All-append (IsTrueOf us) (wait_piece (acceptance_of u).tick ((acceptance_of u).tick + 1) Turn w u.word) (turns from w (acceptance_of u) older)
                  (piece-true us (acceptance_of u).tick ((acceptance_of u).tick + 1) Turn w u.word (λ t a b. turn-true us u y here ((acceptance_of u).tick + 1) t (omega (arith, a, b, tick-of u))))
                  (turns-true u (acceptance_of u) older linked.1 y here (λ p h. all p (or_right _ _ h)) refl linked.0 wanted)))
              | inr soon ↦
                  let early_one : (read_of u.supply).accept < from = leb-false _ _ soon in
                  rw (not-between from next.tick u early_one)
                  (rw (turns-none base from w next older linked.1 (omega (arith, early_one, linked.0.turn y, linked.0.accept y)))
                  (last-true n next is among same (comes.accept is) from want (omega (arith, turn, early_one))))
            ]
        | inr m ↦
            rw (not-read from next.tick u m)
            (turns-true n next older linked.1 is among (λ p h. all p (or_right _ _ h)) same
            (record {
              turn = λ i. comes.turn i ∙ turn-other base u older m;
              want = λ i. omega (arith, comes.want i, want-other u older m);
              accept = comes.accept;
            }) want)
      ]
