-- A field write to storage leaves each word unchanged that has no bit of the field.
use Rattle.st_exec.proofs.Common.{◌≡◌, ℕ, zero, suc, ◌+◌, ◌-◌, ◌*◌, ◌/◌, ◌%◌, ◌^◌, ◌<◌, ◌≤◌, ◌⊎◌, inl, inr, List, [], ◌∷◌, ◌++◌, length, take, drop, refl, sym, ◌∙◌, ap, arith, get_or, append_assoc, length-append, zero-add, drop-drop, take-append-drop, length-take, bits, num, all_bits, field, put, words_of, register_word, fixed_from, length-bits, field-within, field-beyond, num-in_word, Machine, word, state_with_bits}

-- ---- lengths

pub length-all_bits : (ws : List ℕ) → length (all_bits ws) ≡ 64 * length ws
unfolding all_bits
length-all_bits [] = refl
length-all_bits (w ∷ ws) =
    omega (arith, length-append (bits 64 w) (all_bits ws), length-bits 64 w, length-all_bits ws)

length-words_of : (n : ℕ) (s : List ℕ) → length (words_of n s) ≡ n
unfolding words_of
length-words_of zero s = refl
length-words_of (suc n) s = ap suc (length-words_of n (drop 64 s))

length-fixed_from : (k : ℕ) (ws : List ℕ) → length (fixed_from k ws) ≡ length ws
unfolding fixed_from
length-fixed_from k [] = refl
length-fixed_from k (x ∷ ws) = ap suc (length-fixed_from (k + 1) ws)

pub length-placed : (s : Machine) (a : ℕ) (v : List ℕ) → length (state_with_bits s a v).words ≡ length s.words
length-placed s a v =
    length-fixed_from 0 (words_of (length s.words) (put (all_bits s.words) a v))
    ∙ length-words_of (length s.words) (put (all_bits s.words) a v)

-- ---- single words

get_or-words_of : (n i : ℕ) (s : List ℕ) → i < n → get_or (words_of n s) i 0 ≡ num (field s (64 * i) 64)
unfolding words_of field
get_or-words_of zero i s h = absurd (omega arith)
get_or-words_of (suc n) zero s h = refl
get_or-words_of (suc n) (suc i) s h =
    let place : 64 + 64 * i ≡ 64 * suc i = omega arith in
    get_or-words_of n i (drop 64 s) (omega arith)
    ∙ ap (λ xs. num (take 64 xs)) (drop-drop (64 * i) 64 s ∙ ap (λ k. drop k s) place)

get_or-fixed_from : (k i : ℕ) (ws : List ℕ) → i < length ws
    → get_or (fixed_from k ws) i 0 ≡ register_word (k + i) (get_or ws i 0)
unfolding fixed_from
get_or-fixed_from k i [] h = absurd (omega arith)
get_or-fixed_from k zero (x ∷ ws) h =
    let place : k ≡ k + 0 = omega arith in ap (λ j. register_word j x) place
get_or-fixed_from k (suc i) (x ∷ ws) h =
    let place : k + 1 + i ≡ k + suc i = omega arith in
    get_or-fixed_from (k + 1) i ws (omega arith) ∙ ap (λ j. register_word j (get_or ws i 0)) place

-- a word of storage after bits are written
pub word-placed_by : (s : Machine) (a : ℕ) (v : List ℕ) (i : ℕ) → i < length s.words
    → word (state_with_bits s a v) i ≡ register_word i (num (field (put (all_bits s.words) a v) (64 * i) 64))
word-placed_by s a v i here =
    let bs = put (all_bits s.words) a v in
    let ws = words_of (length s.words) bs in
    get_or-fixed_from 0 i ws (omega (arith, length-words_of (length s.words) bs))
    ∙ ap (λ k. register_word k (get_or ws i 0)) (zero-add i)
    ∙ ap (register_word i) (get_or-words_of (length s.words) i bs here)

-- ---- fields disjoint from the written one

field-put_after : (s v : List ℕ) (a c n : ℕ) → a + length v ≤ length s → c + n ≤ a → field (put s a v) c n ≡ field s c n
unfolding put
field-put_after s v a c n inside before =
    let size : length (take a s) ≡ a = omega (arith, length-take a s) in
    ap (λ xs. field xs c n) (append_assoc (take a s) v (drop (a + length v) s))
    ∙ field-within (take a s) (v ++ drop (a + length v) s) c n (omega arith)
    ∙ sym (field-within (take a s) (drop a s) c n (omega arith))
    ∙ ap (λ xs. field xs c n) (take-append-drop a s)

field-put_before : (s v : List ℕ) (a d n : ℕ) → a + length v ≤ length s
    → field (put s a v) (a + length v + d) n ≡ field s (a + length v + d) n
unfolding put
field-put_before s v a d n inside =
    let front = take a s ++ v in
    let size : length front ≡ a + length v = omega (arith, length-take a s, length-append (take a s) v) in
    let same : length (take (a + length v) s) ≡ a + length v = omega (arith, length-take (a + length v) s) in
    ap (λ k. field (front ++ drop (a + length v) s) (k + d) n) (sym size)
    ∙ field-beyond front (drop (a + length v) s) d n
    ∙ sym (field-beyond (take (a + length v) s) (drop (a + length v) s) d n)
    ∙ ap (λ k. field (take (a + length v) s ++ drop (a + length v) s) (k + d) n) same
    ∙ ap (λ xs. field xs (a + length v + d) n) (take-append-drop (a + length v) s)

field-put_apart : (s v : List ℕ) (a c n : ℕ) → a + length v ≤ length s → (c + n ≤ a) ⊎ (a + length v ≤ c)
    → field (put s a v) c n ≡ field s c n
field-put_apart s v a c n inside (inl before) = field-put_after s v a c n inside before
field-put_apart s v a c n inside (inr after) =
    let place : c ≡ a + length v + (c - (a + length v)) = omega arith in
    ap (λ k. field (put s a v) k n) place
    ∙ field-put_before s v a (c - (a + length v)) n inside
    ∙ ap (λ k. field s k n) (sym place)

-- ---- words of storage

-- a word of storage that has no bit of the written field is unchanged; a register has its fixed
-- bits
pub word-placed : (s : Machine) (a : ℕ) (v : List ℕ) (i : ℕ) → i < length s.words → a + length v ≤ 64 * length s.words
    → (64 * i + 64 ≤ a) ⊎ (a + length v ≤ 64 * i) → word (state_with_bits s a v) i ≡ register_word i (word s i % 2 ^ 64)
word-placed s a v i here inside apart =
    let ws = s.words in
    let room : a + length v ≤ length (all_bits ws) = omega (arith, length-all_bits ws) in
    let start : 64 * i ≡ 64 * i + 0 = omega arith in
    let one : word s i / 1 ≡ word s i = omega arith in
    word-placed_by s a v i here
    ∙ ap (register_word i)
    (ap num (field-put_apart (all_bits ws) v a (64 * i) 64 room apart ∙ ap (λ k. field (all_bits ws) k 64) start)
    ∙ num-in_word ws i 0 64 here (omega arith)
    ∙ ap (λ x. x % 2 ^ 64) one)
