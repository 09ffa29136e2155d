-- The next word or the fetched instruction of a reading, by the contents of its first words.
use Rattle.st_next.proofs.Common.{◌≡◌, ℕ, ◌-◌, ◌≤◌, Bool, true, false, List, [], ◌∷◌, ◌++◌, length, map, refl, sym, ap, arith, Fetched, Next, Found, Reading, Finds, Reads, outcome, words_read, own_words, left_after, fetching_of}

-- no own word follows a word of the target
unfoldable pub OwnFirst : Reading → (ℕ → ℕ) → Type 0
OwnFirst (Finds f) c = Unit {0}
OwnFirst (Reads true w r) c = own_words (r (c w)) c ≡ 0
OwnFirst (Reads false w r) c = OwnFirst (r (c w)) c

-- a reading without own words has none after a word of the target
pub none-first : (r : Reading) (c : ℕ → ℕ) → own_words r c ≡ 0 → OwnFirst r c
unfolding OwnFirst own_words
none-first (Finds f) c none = tt
none-first (Reads true w r) c none = none
none-first (Reads false w r) c none = absurd (omega arith)

-- s remains of the reading r after the contents of its first words ws, with `rest` still to be read
pub record IsRest (r s : Reading) (c : ℕ → ℕ) (ws rest : List ℕ) : Type 0 where
  pub words : words_read s c ≡ rest
  pub found : outcome s c ≡ outcome r c
  pub own : own_words s c ≡ own_words r c - length ws
  pub first : OwnFirst s c

pub rest-left : (r : Reading) (c : ℕ → ℕ) (ws rest : List ℕ) → words_read r c ≡ ws ++ rest → OwnFirst r c
    → IsRest r (left_after r (map c ws)) c ws rest
unfolding left_after words_read own_words outcome OwnFirst
rest-left (Finds f) c [] rest e first = record { words = e; found = refl; own = omega arith; first = tt }
rest-left (Finds f) c (w ∷ ws) rest e first = absurd (cc)
rest-left (Reads true v r) c [] rest e first = record { words = e; found = refl; own = omega arith; first = first }
rest-left (Reads false v r) c [] rest e first = record { words = e; found = refl; own = omega arith; first = first }
rest-left (Reads true v r) c (w ∷ ws) rest e first =
    let same : r (c w) ≡ r (c v) = let word : w ≡ v = cc in ap (λ x. r (c x)) word in
    let tail : words_read (r (c v)) c ≡ ws ++ rest = cc in
    let it = rest-left (r (c v)) c ws rest tail (none-first (r (c v)) c first) in
    rw same (record { words = it.words; found = it.found; own = omega (arith, it.own, first); first = it.first })
rest-left (Reads false v r) c (w ∷ ws) rest e first =
    let same : r (c w) ≡ r (c v) = let word : w ≡ v = cc in ap (λ x. r (c x)) word in
    let tail : words_read (r (c v)) c ≡ ws ++ rest = cc in
    let it = rest-left (r (c v)) c ws rest tail first in
    rw same (record { words = it.words; found = it.found; own = omega (arith, it.own); first = it.first })

-- ---- the next word, or the fetched instruction

pub given-word : (s : Reading) (c : ℕ → ℕ) (w : ℕ) (t : Bool) → fetching_of s ≡ Next w t
    → (rest : List ℕ) × (words_read s c ≡ w ∷ rest)
unfolding fetching_of words_read
given-word (Finds f) c w t e = absurd (cc)
given-word (Reads u v r) c w t e =
    let same : v ≡ w = cc in (words_read (r (c v)) c, ap (λ x. x ∷ words_read (r (c v)) c) same)

pub given-own : (s : Reading) (c : ℕ → ℕ) (w : ℕ) → fetching_of s ≡ Next w false → 1 ≤ own_words s c
unfolding fetching_of own_words
given-own (Finds f) c w e = absurd (cc)
given-own (Reads true v r) c w e = absurd (cc)
given-own (Reads false v r) c w e = omega arith

pub given-target : (s : Reading) (c : ℕ → ℕ) (w : ℕ) → fetching_of s ≡ Next w true → OwnFirst s c → own_words s c ≡ 0
unfolding fetching_of own_words OwnFirst
given-target (Finds f) c w e first = refl
given-target (Reads true v r) c w e first = first
given-target (Reads false v r) c w e first = absurd (cc)

pub given-found : (s : Reading) (c : ℕ → ℕ) (f : Fetched) → fetching_of s ≡ Found f
    → (words_read s c ≡ []) × (f ≡ outcome s c)
unfolding fetching_of words_read outcome
given-found (Finds g) c f e = let same : g ≡ f = cc in (refl, sym same)
given-found (Reads u v r) c f e = absurd (cc)
