-- The waits of a row are true at each tick.
use Rattle.st_ledger.proofs.Common.{Bool, nat_eq, ◌&&◌, All, list_any, ◌≡◌, ℕ, ◌≤◌, ◌<◌, max, true, false, List, [], ◌∷◌, ◌++◌, refl, arith, cond_both, and_parts, eqb-true, or_left, or_right, All-nil, All-append, All-head, All-tail, Role, Instruction, Use, Storage, is_read, read_of, is_answered_at, decides, wait_piece, acceptance_of, turns, read_waits, data_waits, held_waits, bus_waits, fetch_waits, is_cause, IsTrueOf, brings}
use Rattle.st_ledger.proofs.Linked.{AreLinked}
use Rattle.st_ledger.proofs.Turns.{piece-true, storage-true, turns-true}
use Rattle.st_ledger.proofs.WordLemmas.{answer-of}

-- each of these words is among the others
unfoldable pub AreAmong : List Use → List Use → Type 0
AreAmong us xs = (p : Use → Bool) → list_any p xs ≡ true → list_any p us ≡ true

head-among : (us : List Use) (u : Use) (older : List Use) → AreAmong us (u ∷ older) → (p : Use → Bool) → p u ≡ true → list_any p us ≡ true
unfolding AreAmong
head-among us u older all p h = all p (or_left _ _ h)

tail-among : (us : List Use) (u : Use) (older : List Use) → AreAmong us (u ∷ older) → AreAmong us older
unfolding AreAmong
tail-among us u older all p h = all p (or_right _ _ h)

flat-among : (us older : List Use) → AreAmong us older → (p : Use → Bool) → list_any p older ≡ true → list_any p us ≡ true
unfolding AreAmong
flat-among us older all = all

answered-at : (role : Role) (t : ℕ) (u : Use) → is_read u.supply ≡ true → is_answered_at role t u ≡ true → (read_of u.supply).answer ≡ t
unfolding is_answered_at
answered-at role t u is at = answer-of t u.supply is (and_parts _ _ at).1

-- a held word that decides is in progress the whole time, unless a read of the row before brings it
unfoldable pub AreOnTheirWay : List Use → ℕ → List Use → List Use → Type 0
AreOnTheirWay us from before [] = Unit {0}
AreOnTheirWay us from before (u ∷ earlier) =
    ((t : ℕ) → is_read u.supply ≡ false → decides Instruction t u earlier ≡ true → list_any (brings u.word t) before ≡ false
    → (v : ℕ) → from ≤ v → v < t → list_any (is_cause Storage u.word t v) us ≡ true)
    × AreOnTheirWay us from before earlier

module _ (us : List Use) (base from : ℕ) (early : base ≤ from) where
  -- ---- a read that is answered at the tick t

  read-true : (t : ℕ) (u : Use) (older : List Use) → AreLinked base (u ∷ older) → AreAmong us (u ∷ older) → is_read u.supply ≡ true
      → (read_of u.supply).answer ≡ t → All (IsTrueOf us) (read_waits from t u older)
  unfolding read_waits AreLinked
  read-true t u older linked all is at =
      All-append (IsTrueOf us) (wait_piece (max from (read_of u.supply).accept) t Storage u.word u.word)
      (turns (max from (read_of u.supply).want) u.word (acceptance_of u) older)
      (piece-true us (max from (read_of u.supply).accept) t Storage u.word u.word
      (λ s late less. storage-true us u is (head-among us u older all) t s (omega (arith, late)) (omega (arith, less, at))))
      (turns-true us base (max from (read_of u.supply).want) u.word (omega (arith, early)) u (acceptance_of u) older linked.1 is
      (head-among us u older all) (flat-among us older (tail-among us u older all)) refl linked.0 (omega arith))

  -- the wait for a read that is accepted at tick t is true
  accepted-true : (u : Use) (older : List Use) → AreLinked base (u ∷ older) → AreAmong us (u ∷ older) → is_read u.supply ≡ true
      → All (IsTrueOf us) (turns (max from (read_of u.supply).want) u.word (acceptance_of u) older)
  unfolding AreLinked
  accepted-true u older linked all is =
      turns-true us base (max from (read_of u.supply).want) u.word (omega (arith, early)) u (acceptance_of u) older linked.1 is
      (head-among us u older all) (flat-among us older (tail-among us u older all)) refl linked.0 (omega arith)

  linked-tail : (u : Use) (older : List Use) → AreLinked base (u ∷ older) → AreLinked base older
  unfolding AreLinked
  linked-tail u older linked = linked.1

  -- ---- the waits of a row

  pub data-true : (role : Role) (t : ℕ) (before uses : List Use) → AreLinked base (uses ++ before) → AreAmong us (uses ++ before)
      → All (λ u. is_answered_at role t u ≡ true → is_read u.supply ≡ true) uses
      → All (IsTrueOf us) (data_waits role from t before uses)
  unfolding data_waits
  data-true role t before [] linked all read = All-nil (IsTrueOf us)
  data-true role t before (u ∷ earlier) linked all read =
      cond_both (decides role t u earlier) _ _ (λ xs. All (IsTrueOf us) xs)
      (λ due.
      let at = (and_parts _ _ due).0 in
      let is = All-head (λ v. is_answered_at role t v ≡ true → is_read v.supply ≡ true) u earlier read at in
      read-true t u (earlier ++ before) linked all is (answered-at role t u is at))
      (λ not_due. data-true role t before earlier (linked-tail u (earlier ++ before) linked) (tail-among us u (earlier ++ before) all)
      (All-tail (λ v. is_answered_at role t v ≡ true → is_read v.supply ≡ true) u earlier read))

  -- the wait for a held word is true: its read is one of the row before, or it is in progress the
  -- whole time
  pub held-true : (t w : ℕ) (before : List Use) → AreLinked base before → AreAmong us before
      → (list_any (brings w t) before ≡ false → (s : ℕ) → from ≤ s → s < t → list_any (is_cause Storage w t s) us ≡ true)
      → All (IsTrueOf us) (held_waits from t w before)
  unfolding held_waits
  held-true t w [] linked all older_one = piece-true us from t Storage w w (older_one refl)
  held-true t w (u ∷ older) linked all older_one =
      cond_both (is_read u.supply && (nat_eq u.word w && nat_eq (read_of u.supply).answer t)) _ _ (λ xs. All (IsTrueOf us) xs)
      (λ yes_read.
      let both = and_parts _ _ yes_read in
      read-true t u older linked all both.0 (eqb-true _ _ (and_parts _ _ both.1).1))
      (λ no_read. held-true t w older (linked-tail u older linked) (tail-among us u older all) (λ none. older_one (rw no_read none)))

  pub bus-true : (t : ℕ) (before : List Use) → AreLinked base before → AreAmong us before → All (IsTrueOf us) (bus_waits from t before)
  unfolding bus_waits
  bus-true t [] linked all = All-nil (IsTrueOf us)
  bus-true t (u ∷ older) linked all =
      cond_both (is_read u.supply) _ _ (λ xs. All (IsTrueOf us) xs)
      (λ yes_read. cond_both (nat_eq (read_of u.supply).accept t) _ _ (λ xs. All (IsTrueOf us) xs)
      (λ at. accepted-true u older linked all yes_read)
      (λ not_at. All-nil (IsTrueOf us)))
      (λ no_read. bus-true t older (linked-tail u older linked) (tail-among us u older all))

  -- the waits for instruction words are true: each held word is in progress unless a read of the
  -- row before brings it
  pub fetch-true : (t : ℕ) (before words : List Use) → AreLinked base before → AreAmong us before
      → AreLinked base (words ++ before) → AreAmong us (words ++ before)
      → AreOnTheirWay us from before words
      → All (IsTrueOf us) (fetch_waits from t before words)
  unfolding fetch_waits AreOnTheirWay
  fetch-true t before [] old_linked old_all linked all held = bus-true t before old_linked old_all
  fetch-true t before (u ∷ earlier) old_linked old_all linked all held =
      let rest : (s : ℕ) → All (IsTrueOf us) (fetch_waits from s before earlier) = λ s.
      fetch-true s before earlier old_linked old_all (linked-tail u (earlier ++ before) linked) (tail-among us u (earlier ++ before) all)
      held.1 in
      cond_both (decides Instruction t u earlier) _ _ (λ xs. All (IsTrueOf us) xs)
      (λ due. let at = (and_parts _ _ due).0 in
      cond_both (is_read u.supply) _ _ (λ xs. All (IsTrueOf us) xs)
      (λ yes_read.
      All-append (IsTrueOf us) (read_waits from t u (earlier ++ before)) (fetch_waits from (read_of u.supply).want before earlier)
      (read-true t u (earlier ++ before) linked all yes_read (answered-at Instruction t u yes_read at))
      (rest (read_of u.supply).want))
      (λ no_read. held-true t u.word before old_linked old_all (held.0 t no_read due)))
      (λ not_due. rest t)
