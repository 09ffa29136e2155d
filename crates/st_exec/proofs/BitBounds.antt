-- Bounds of the numbers that lists of bits encode.
use Rattle.st_exec.proofs.Common.{◌≡◌, ℕ, zero, suc, ◌+◌, ◌^◌, ◌<◌, ◌≤◌, List, [], ◌∷◌, ◌++◌, length, take, drop, get_or, refl, sym, ap, subst, arith, bit_at-lt, get_or-drop, length-take, pow-succ', pow-le-pow_right, bits, num, all_bits, field, put, by_weight}
use Rattle.std.specs.Int.{bit_at}
use Rattle.st_state.proofs.TurnedLemmas.{one_more as one_digit}

-- each item of a list is zero or one
pub record AreBits (xs : List ℕ) : Type 0 where
  pub each : (k : ℕ) → get_or xs k 0 < 2

bits-none : AreBits []
bits-none = record { each = λ k. omega arith }

bits-more : (b : ℕ) (xs : List ℕ) → b < 2 → AreBits xs → AreBits (b ∷ xs)
bits-more b xs here rest = record { each = more b xs here rest } where
  more : (b : ℕ) (xs : List ℕ) → b < 2 → AreBits xs → (k : ℕ) → get_or (b ∷ xs) k 0 < 2
  more b xs here rest zero = here
  more b xs here rest (suc k) = rest.each k

bits-tail : (b : ℕ) (xs : List ℕ) → AreBits (b ∷ xs) → AreBits xs
bits-tail b xs h = record { each = λ k. h.each (suc k) }

pub are_bits : (n x : ℕ) → AreBits (bits n x)
unfolding bits
are_bits zero x = bits-none
are_bits (suc n) x = bits-more (bit_at x n) (bits n x) (bit_at-lt x n) (are_bits n x)

pub bits-append : (xs ys : List ℕ) → AreBits xs → AreBits ys → AreBits (xs ++ ys)
bits-append [] ys h k = k
bits-append (x ∷ xs) ys h k = bits-more x (xs ++ ys) (h.each 0) (bits-append xs ys (bits-tail x xs h) k)

bits-drop : (n : ℕ) (xs : List ℕ) → AreBits xs → AreBits (drop n xs)
bits-drop n xs h =
    record { each = λ k. subst (λ (y : ℕ). y < 2) (sym (get_or-drop n xs k 0)) (h.each (n + k)) }

bits-take : (n : ℕ) (xs : List ℕ) → AreBits xs → AreBits (take n xs)
bits-take zero xs h = bits-none
bits-take (suc n) [] h = bits-none
bits-take (suc n) (x ∷ xs) h = bits-more x (take n xs) (h.each 0) (bits-take n xs (bits-tail x xs h))

bits-all : (ws : List ℕ) → AreBits (all_bits ws)
unfolding all_bits
bits-all [] = bits-none
bits-all (w ∷ ws) = bits-append (bits 64 w) (all_bits ws) (are_bits 64 w) (bits-all ws)

bits-put : (s v : List ℕ) (a : ℕ) → AreBits s → AreBits v → AreBits (put s a v)
unfolding put
bits-put s v a h k =
    bits-append (take a s ++ v) (drop (a + length v) s) (bits-append (take a s) v (bits-take a s h) k) (bits-drop (a + length v) s h)

num-below : (xs : List ℕ) → AreBits xs → num xs < 2 ^ length xs
unfolding num
num-below [] h = omega arith
num-below (b ∷ xs) h =
    one_digit b (2 ^ length xs) (num xs) (2 ^ suc (length xs)) (h.each 0) (num-below xs (bits-tail b xs h)) (pow-succ' 2 (length xs))

pub num-few : (xs : List ℕ) (n : ℕ) → AreBits xs → length xs ≤ n → num xs < 2 ^ n
num-few xs n h few =
    let room : 2 ^ length xs ≤ 2 ^ n = pow-le-pow_right (omega arith) few in
    let below : num xs < 2 ^ length xs = num-below xs h in
    omega arith

num-field : (s : List ℕ) (c n : ℕ) → AreBits s → num (field s c n) < 2 ^ n
unfolding field
num-field s c n h =
    num-few (take n (drop c s)) n (bits-take n (drop c s) (bits-drop c s h)) (omega (arith, length-take n (drop c s)))

-- the number in a field of n bits of storage is below 2 ^ n
pub field-below : (ws : List ℕ) (c n : ℕ) → num (field (all_bits ws) c n) < 2 ^ n
field-below ws c n = num-field (all_bits ws) c n (bits-all ws)

-- the number in a field of n bits is below 2 ^ n also after a field write
pub field-put_below : (ws : List ℕ) (a m v c n : ℕ) → num (field (put (all_bits ws) a (bits m v)) c n) < 2 ^ n
field-put_below ws a m v c n = num-field _ c n (bits-put (all_bits ws) (bits m v) a (bits-all ws) (are_bits m v))

-- a list of bits by their weights
length-by_weight : (bit : ℕ → ℕ) (n : ℕ) → length (by_weight bit n) ≡ n
unfolding by_weight
length-by_weight bit zero = refl
length-by_weight bit (suc n) = ap suc (length-by_weight bit n)

bits-by_weight : (bit : ℕ → ℕ) (n : ℕ) → ((i : ℕ) → bit i < 2) → AreBits (by_weight bit n)
unfolding by_weight
bits-by_weight bit zero h = bits-none
bits-by_weight bit (suc n) h = bits-more (bit n) (by_weight bit n) (h n) (bits-by_weight bit n h)

pub num-by_weight : (bit : ℕ → ℕ) (n : ℕ) → ((i : ℕ) → bit i < 2) → num (by_weight bit n) < 2 ^ n
num-by_weight bit n h = num-few (by_weight bit n) n (bits-by_weight bit n h) (omega (arith, length-by_weight bit n))
