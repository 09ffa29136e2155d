-- Words that are read from a list, changed in a short list and stored again.
use Rattle.st_bits.proofs.Common.{◌≡◌, ℕ, zero, suc, ◌+◌, ◌*◌, ◌^◌, ◌<◌, ◌≤◌, List, [], ◌∷◌, ◌++◌, length, take, drop, get_or, refl, sym, ◌∙◌, ap, arith, length-append, append_assoc, set, mod-eq_of_lt, append-nil, take_at, drop_at, bits, num, all_bits, field, put, words_of}
use Rattle.st_bits.specs.Registers.{register_word, fixed_from}
use Rattle.st_bits.proofs.BitLists.{length-bits, num-bits}
use Rattle.st_bits.proofs.WordFields.{field-beyond, field-within, put-beyond, put-within, put-in_word, next_place}

-- a field within two consecutive words of a list is the field of these two words
pub field-window : (ws : List ℕ) (w b n : ℕ) → suc w < length ws → b + n ≤ 128
    → field (all_bits ws) (64 * w + b) n ≡ field (all_bits (get_or ws w 0 ∷ get_or ws (suc w) 0 ∷ [])) b n
unfolding all_bits
field-window [] w b n h le = absurd (omega arith)
field-window (x ∷ []) w b n h le = absurd (omega arith)
field-window (x ∷ x' ∷ ws) zero b n h le =
    let first : 64 * 0 + b ≡ b = omega arith in
    let size : length (bits 64 x ++ bits 64 x') ≡ 128 =
    omega (arith, length-append (bits 64 x) (bits 64 x'), length-bits 64 x, length-bits 64 x') in
    ap (λ a. field (bits 64 x ++ (bits 64 x' ++ all_bits ws)) a n) first
    ∙ ap (λ bs. field bs b n) (sym (append_assoc (bits 64 x) (bits 64 x') (all_bits ws)))
    ∙ field-within (bits 64 x ++ bits 64 x') (all_bits ws) b n (omega arith)
    ∙ ap (λ bs. field (bits 64 x ++ bs) b n) (sym (append-nil (bits 64 x')))
field-window (x ∷ x' ∷ ws) (suc w) b n h le =
    ap (λ a. field (bits 64 x ++ (bits 64 x' ++ all_bits ws)) a n) (next_place x w b)
    ∙ field-beyond (bits 64 x) (bits 64 x' ++ all_bits ws) (64 * w + b) n
    ∙ field-window (x' ∷ ws) w b n (omega arith) le

-- storing the one word that a put changes equals the put into the whole list
pub put-stored : (ws : List ℕ) (w b : ℕ) (v : List ℕ) (y : ℕ) → w < length ws → b + length v ≤ 64
    → put (all_bits (get_or ws w 0 ∷ [])) b v ≡ all_bits (y ∷ [])
    → put (all_bits ws) (64 * w + b) v ≡ all_bits (set ws w y)
unfolding all_bits
put-stored ws w b v y h le e =
    put-in_word ws w b v y h le
    (ap (λ bs. put bs b v) (sym (append-nil (bits 64 (get_or ws w 0)))) ∙ e ∙ append-nil (bits 64 y))

-- storing the two words that a put changes equals the put into the whole list
pub put-stored_two : (ws : List ℕ) (w b : ℕ) (v : List ℕ) (y z : ℕ) → suc w < length ws → b + length v ≤ 128
    → put (all_bits (get_or ws w 0 ∷ get_or ws (suc w) 0 ∷ [])) b v ≡ all_bits (y ∷ z ∷ [])
    → put (all_bits ws) (64 * w + b) v ≡ all_bits (set (set ws w y) (suc w) z)
unfolding all_bits
put-stored_two [] w b v y z h le e = absurd (omega arith)
put-stored_two (x ∷ []) w b v y z h le e = absurd (omega arith)
put-stored_two (x ∷ x' ∷ ws) zero b v y z h le e =
    let first : 64 * 0 + b ≡ b = omega arith in
    let size : length (bits 64 x ++ bits 64 x') ≡ 128 =
    omega (arith, length-append (bits 64 x) (bits 64 x'), length-bits 64 x, length-bits 64 x') in
    ap (λ a. put (bits 64 x ++ (bits 64 x' ++ all_bits ws)) a v) first
    ∙ ap (λ bs. put bs b v) (sym (append_assoc (bits 64 x) (bits 64 x') (all_bits ws)))
    ∙ put-within (bits 64 x ++ bits 64 x') (all_bits ws) b v (omega arith)
    ∙ ap (λ bs. put (bits 64 x ++ bs) b v ++ all_bits ws) (sym (append-nil (bits 64 x')))
    ∙ ap (λ bs. bs ++ all_bits ws) e
    ∙ ap (λ bs. bits 64 y ++ bs ++ all_bits ws) (append-nil (bits 64 z))
    ∙ append_assoc (bits 64 y) (bits 64 z) (all_bits ws)
put-stored_two (x ∷ x' ∷ ws) (suc w) b v y z h le e =
    ap (λ a. put (bits 64 x ++ (bits 64 x' ++ all_bits ws)) a v) (next_place x w b)
    ∙ put-beyond (bits 64 x) (bits 64 x' ++ all_bits ws) (64 * w + b) v
    ∙ ap (λ bs. bits 64 x ++ bs) (put-stored_two (x' ∷ ws) w b v y z (omega arith) le e)

-- words_of is the inverse of all_bits
pub words_of-all_bits : (ws : List ℕ) → ((w : ℕ) → get_or ws w 0 < 2 ^ 64) → words_of (length ws) (all_bits ws) ≡ ws
unfolding all_bits words_of
words_of-all_bits [] below = refl
words_of-all_bits (x ∷ ws) below =
    let here : x < 2 ^ 64 = below 0 in
    let number : num (take 64 (bits 64 x ++ all_bits ws)) ≡ x =
    ap num (take_at (bits 64 x) (all_bits ws) 64 (length-bits 64 x)) ∙ num-bits 64 x ∙ mod-eq_of_lt here in
    let rest : drop 64 (bits 64 x ++ all_bits ws) ≡ all_bits ws =
    drop_at (bits 64 x) (all_bits ws) 64 (length-bits 64 x) in
    ap (λ y. y ∷ words_of (length ws) (drop 64 (bits 64 x ++ all_bits ws))) number
    ∙ ap (λ bs. x ∷ words_of (length ws) bs) rest
    ∙ ap (λ xs. x ∷ xs) (words_of-all_bits ws (λ w. below (suc w)))

-- words that have their fixed bits do not change when the fixed bits are applied
pub fixed_from-kept : (k : ℕ) (ws : List ℕ) → ((w : ℕ) → register_word (k + w) (get_or ws w 0) ≡ get_or ws w 0)
    → fixed_from k ws ≡ ws
unfolding fixed_from
fixed_from-kept k [] keeps = refl
fixed_from-kept k (x ∷ ws) keeps =
    let start : k ≡ k + 0 = omega arith in
    ap (λ y. y ∷ fixed_from (k + 1) ws) (ap (λ w. register_word w x) start ∙ keeps 0)
    ∙ ap (λ xs. x ∷ xs)
    (fixed_from-kept (k + 1) ws
    (λ w.
    let next : k + 1 + w ≡ k + suc w = omega arith in
    ap (λ m. register_word m (get_or ws w 0)) next ∙ keeps (suc w)))

-- the fixed bits of a list in which one word is changed
pub fixed_from-set : (k : ℕ) (ws : List ℕ) (w y : ℕ)
    → fixed_from k (set ws w y) ≡ set (fixed_from k ws) w (register_word (k + w) y)
unfolding fixed_from
fixed_from-set k [] w y = refl
fixed_from-set k (x ∷ ws) zero y =
    let start : k ≡ k + 0 = omega arith in
    ap (λ m. register_word m y ∷ fixed_from (k + 1) ws) start
fixed_from-set k (x ∷ ws) (suc w) y =
    let next : k + 1 + w ≡ k + suc w = omega arith in
    ap (λ xs. register_word k x ∷ xs)
    (fixed_from-set (k + 1) ws w y ∙ ap (λ m. set (fixed_from (k + 1) ws) w (register_word m y)) next)
