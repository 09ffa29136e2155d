-- A field write to storage is a store of the one or two words that it changes.
use Rattle.st_state.proofs.Common.{◌≡◌, ℕ, suc, ◌+◌, ◌*◌, ◌/◌, ◌%◌, ◌<◌, ◌≤◌, ◌^◌, List, [], ◌∷◌, length, refl, sym, ◌∙◌, ap, arith, inl, inr, get_or, zero-add, set, length-set, leb_tells, all_bits, put, words_of, register_word, fixed_from, words_of_storage, fixed-index, Machine, IsMachine, word, state_with_store, state_with_bits}
use Rattle.st_bits.proofs.Windows.{put-stored, put-stored_two, words_of-all_bits, fixed_from-kept, fixed_from-set}
use Rattle.st_state.proofs.Kept.{each_after_set}

-- each word of a state has its fixed bits
pub fixed-word : (s : Machine) (w : ℕ) → IsMachine s → register_word w (word s w) ≡ word s w
fixed-word s w m =
    elim (leb_tells 32 w) [
      | inl p ↦ let above : 32 ≤ w = p.1 in fixed-index w (word s w) (omega arith)
      | inr q ↦ m.registers w q.1
    ]

-- the words of a changed list are below 2^64
words_of-changed : (ws changed : List ℕ) → length changed ≡ length ws → ((w : ℕ) → get_or changed w 0 < 2 ^ 64)
    → words_of (length ws) (all_bits changed) ≡ changed
words_of-changed ws changed size below =
    ap (λ n. words_of n (all_bits changed)) (sym size) ∙ words_of-all_bits changed below

-- applying the fixed bits to the words of a state does not change them
fixed-words : (s : Machine) → IsMachine s → fixed_from 0 s.words ≡ s.words
fixed-words s m =
    fixed_from-kept 0 s.words (λ w. ap (λ k. register_word k (word s w)) (zero-add w) ∙ fixed-word s w m)

fixed-set : (ws : List ℕ) (w y : ℕ) → fixed_from 0 (set ws w y) ≡ set (fixed_from 0 ws) w (register_word w y)
fixed-set ws w y =
    fixed_from-set 0 ws w y ∙ ap (λ k. set (fixed_from 0 ws) w (register_word k y)) (zero-add w)

-- a field write within one word is a store of that word
pub placed-stored : (s : Machine) (w b : ℕ) (v : List ℕ) (y : ℕ) → IsMachine s → w < words_of_storage
    → b + length v ≤ 64 → y < 2 ^ 64
    → put (all_bits (word s w ∷ [])) b v ≡ all_bits (y ∷ []) → state_with_bits s (64 * w + b) v ≡ state_with_store s w y
placed-stored s w b v y m inside le below e =
    let ws = s.words in
    let room : w < length ws = omega (arith, m.size) in
    let words : fixed_from 0 (words_of (length ws) (put (all_bits ws) (64 * w + b) v)) ≡ set ws w (register_word w y) =
    ap (λ bs. fixed_from 0 (words_of (length ws) bs)) (put-stored ws w b v y room le e)
    ∙ ap (fixed_from 0)
    (words_of-changed ws (set ws w y) (length-set ws w y)
    (each_after_set (λ _ x. x < 2 ^ 64) ws w y room below (λ i _. m.below i)))
    ∙ fixed-set ws w y
    ∙ ap (λ xs. set xs w (register_word w y)) (fixed-words s m) in
    ap (λ xs. record s { words = xs }) words

-- a field write across two words is a store of both words
pub placed-stored_two : (s : Machine) (w b : ℕ) (v : List ℕ) (y z : ℕ) → IsMachine s → suc w < words_of_storage
    → b + length v ≤ 128 → y < 2 ^ 64 → z < 2 ^ 64
    → put (all_bits (word s w ∷ word s (suc w) ∷ [])) b v ≡ all_bits (y ∷ z ∷ [])
    → state_with_bits s (64 * w + b) v ≡ state_with_store (state_with_store s w y) (suc w) z
placed-stored_two s w b v y z m inside le below under e =
    let ws = s.words in
    let one = set ws w y in
    let room : w < length ws = omega (arith, m.size) in
    let size : length one ≡ length ws = length-set ws w y in
    let more : suc w < length one = omega (arith, m.size) in
    let ones_below : (i : ℕ) → get_or one i 0 < 2 ^ 64 =
    each_after_set (λ _ x. x < 2 ^ 64) ws w y room below (λ i _. m.below i) in
    let words : fixed_from 0 (words_of (length ws) (put (all_bits ws) (64 * w + b) v))
    ≡ set (set ws w (register_word w y)) (suc w) (register_word (suc w) z) =
    ap (λ bs. fixed_from 0 (words_of (length ws) bs)) (put-stored_two ws w b v y z (omega arith) le e)
    ∙ ap (fixed_from 0)
    (words_of-changed ws (set one (suc w) z) (length-set one (suc w) z ∙ size)
    (each_after_set (λ _ x. x < 2 ^ 64) one (suc w) z more under (λ i _. ones_below i)))
    ∙ fixed-set one (suc w) z
    ∙ ap (λ xs. set xs (suc w) (register_word (suc w) z)) (fixed-set ws w y)
    ∙ ap (λ xs. set (set xs w (register_word w y)) (suc w) (register_word (suc w) z)) (fixed-words s m) in
    ap (λ xs. record s { words = xs }) words

-- lists of one and of two items
pub one_item : (xs : List ℕ) → length xs ≡ 1 → xs ≡ get_or xs 0 0 ∷ []
one_item [] e = absurd (omega arith)
one_item (x ∷ []) e = refl
one_item (x ∷ y ∷ xs) e = absurd (omega arith)

pub two_items : (xs : List ℕ) → length xs ≡ 2 → xs ≡ get_or xs 0 0 ∷ get_or xs 1 0 ∷ []
two_items [] e = absurd (omega arith)
two_items (x ∷ []) e = absurd (omega arith)
two_items (x ∷ y ∷ []) e = refl
two_items (x ∷ y ∷ z ∷ xs) e = absurd (omega arith)

-- a field write within one word, by the bit address, where a list of one word is read, changed and
-- stored
pub placed-one : (s : Machine) (a x : ℕ) (v new : List ℕ) → IsMachine s → a / 64 < words_of_storage
    → a % 64 + length v ≤ 64 → x ≡ word s (a / 64) → length new ≡ 1 → get_or new 0 0 < 2 ^ 64
    → all_bits new ≡ put (all_bits (x ∷ [])) (a % 64) v → state_with_bits s a v ≡ state_with_store s (a / 64) (get_or new 0 0)
placed-one s a x v new m inside le read size below e =
    let address : a ≡ 64 * (a / 64) + a % 64 = omega arith in
    ap (λ k. state_with_bits s k v) address
    ∙ placed-stored s (a / 64) (a % 64) v (get_or new 0 0) m inside le below
    (ap (λ y. put (all_bits (y ∷ [])) (a % 64) v) (sym read) ∙ sym e ∙ ap all_bits (one_item new size))

-- a field write across two words, by the bit address, where a list of two words is read, changed
-- and stored
pub placed-two : (s : Machine) (a x y : ℕ) (v new : List ℕ) → IsMachine s → a / 64 + 1 < words_of_storage
    → a % 64 + length v ≤ 128 → x ≡ word s (a / 64) → y ≡ word s (a / 64 + 1) → length new ≡ 2
    → get_or new 0 0 < 2 ^ 64 → get_or new 1 0 < 2 ^ 64
    → all_bits new ≡ put (all_bits (x ∷ y ∷ [])) (a % 64) v
    → state_with_bits s a v ≡ state_with_store (state_with_store s (a / 64) (get_or new 0 0)) (a / 64 + 1) (get_or new 1 0)
placed-two s a x y v new m inside le read next size below under e =
    let address : a ≡ 64 * (a / 64) + a % 64 = omega arith in
    let after : a / 64 + 1 ≡ suc (a / 64) = omega arith in
    ap (λ k. state_with_bits s k v) address
    ∙ placed-stored_two s (a / 64) (a % 64) v (get_or new 0 0) (get_or new 1 0) m (omega arith) le below under
    (ap (λ z. put (all_bits (word s (a / 64) ∷ z ∷ [])) (a % 64) v)
    (ap (word s) (sym after) ∙ sym next)
    ∙ ap (λ z. put (all_bits (z ∷ y ∷ [])) (a % 64) v) (sym read)
    ∙ sym e
    ∙ ap all_bits (two_items new size))
    ∙ ap (λ k. state_with_store (state_with_store s (a / 64) (get_or new 0 0)) k (get_or new 1 0)) (sym after)
