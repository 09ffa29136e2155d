-- Fields of a list of words: within one word, and across the border of two.
use Rattle.st_bits.proofs.Common.{◌≡◌, ℕ, zero, suc, ◌+◌, ◌-◌, ◌*◌, ◌/◌, ◌%◌, ◌^◌, ◌<◌, ◌≤◌, List, [], ◌∷◌, ◌++◌, length, take, drop, get_or, sym, ◌∙◌, ap, subst, arith, mul_comm, length-append, append_assoc, bit_or, set, append-nil, take-append-le, drop-append-le, take_all, drop_all, length-drop, shr_below, mod_below, pow_pos, pow-add, mul-add-lt, shl_whole, or_shifted, bits, num, all_bits, field, put, part, with_part}
use Rattle.std.proofs.Math.Seq.{drop-append-add, take-append-add}
use Rattle.st_bits.proofs.BitLists.{length-bits, bits-add, bits-mod, num-append, num-field, field-word, put-word}

-- a field past the first part of a list is a field of the second part
pub field-beyond : (xs ys : List ℕ) (b n : ℕ) → field (xs ++ ys) (length xs + b) n ≡ field ys b n
unfolding field
field-beyond xs ys b n = ap (λ zs. take n zs) (drop-append-add xs ys b)

pub put-beyond : (xs ys : List ℕ) (b : ℕ) (v : List ℕ) → put (xs ++ ys) (length xs + b) v ≡ xs ++ put ys b v
unfolding put
put-beyond xs ys b v =
    let place : length xs + b + length v ≡ length xs + (b + length v) = omega arith in
    ap (λ zs. zs ++ v ++ drop (length xs + b + length v) (xs ++ ys)) (take-append-add xs ys b)
    ∙ ap (λ k. xs ++ take b ys ++ v ++ drop k (xs ++ ys)) place
    ∙ ap (λ zs. xs ++ take b ys ++ v ++ zs) (drop-append-add xs ys (b + length v))
    ∙ simp append_assoc

-- a field within the first part of a list
pub field-within : (xs ys : List ℕ) (b n : ℕ) → b + n ≤ length xs → field (xs ++ ys) b n ≡ field xs b n
unfolding field
field-within xs ys b n h =
    ap (λ zs. take n zs) (drop-append-le b xs ys (omega arith))
    ∙ take-append-le n (drop b xs) ys (omega (arith, length-drop b xs))

pub put-within : (xs ys : List ℕ) (b : ℕ) (v : List ℕ) → b + length v ≤ length xs
    → put (xs ++ ys) b v ≡ put xs b v ++ ys
unfolding put
put-within xs ys b v h =
    ap (λ zs. zs ++ v ++ drop (b + length v) (xs ++ ys)) (take-append-le b xs ys (omega arith))
    ∙ ap (λ zs. take b xs ++ v ++ zs) (drop-append-le (b + length v) xs ys h)
    ∙ simp append_assoc

-- a field that crosses from the first part of a list into the second
pub field-over : (xs ys : List ℕ) (b m n : ℕ) → b + m ≡ length xs
    → field (xs ++ ys) b (m + n) ≡ field xs b m ++ field ys 0 n
unfolding field
field-over xs ys b m n h =
    let left : length (drop b xs) ≡ m = omega (arith, length-drop b xs) in
    ap (λ zs. take (m + n) zs) (drop-append-le b xs ys (omega arith))
    ∙ ap (λ k. take (k + n) (drop b xs ++ ys)) (sym left)
    ∙ take-append-add (drop b xs) ys n
    ∙ ap (λ zs. zs ++ take n ys) (sym (take_all m (drop b xs) (omega arith)))

pub put-over : (xs ys : List ℕ) (b : ℕ) (v w : List ℕ) → b + length v ≡ length xs
    → put (xs ++ ys) b (v ++ w) ≡ put xs b v ++ put ys 0 w
unfolding put
put-over xs ys b v w h =
    let end : b + length (v ++ w) ≡ length xs + (0 + length w) = omega (arith, length-append v w) in
    let none : drop (b + length v) xs ≡ [] = drop_all (b + length v) xs (omega arith) in
    ap (λ zs. zs ++ (v ++ w) ++ drop (b + length (v ++ w)) (xs ++ ys)) (take-append-le b xs ys (omega arith))
    ∙ ap (λ k. take b xs ++ (v ++ w) ++ drop k (xs ++ ys)) end
    ∙ ap (λ zs. take b xs ++ (v ++ w) ++ zs) (drop-append-add xs ys (0 + length w))
    ∙ sym
    (ap (λ zs. take b xs ++ v ++ zs ++ (w ++ drop (0 + length w) ys)) none
    ∙ simp (append-nil, append_assoc))

-- the bit address in the list without its first word
pub next_place : (x w b : ℕ) → 64 * suc w + b ≡ length (bits 64 x) + (64 * w + b)
next_place x w b = omega (arith, length-bits 64 x)

-- a field within word w of a list of words
pub field-in_word : (ws : List ℕ) (w b n : ℕ) → w < length ws → b + n ≤ 64
    → field (all_bits ws) (64 * w + b) n ≡ field (bits 64 (get_or ws w 0)) b n
unfolding all_bits
field-in_word [] w b n h le = absurd (omega arith)
field-in_word (x ∷ ws) zero b n h le =
    let first : 64 * 0 + b ≡ b = omega arith in
    ap (λ a. field (bits 64 x ++ all_bits ws) a n) first
    ∙ field-within (bits 64 x) (all_bits ws) b n (omega (arith, length-bits 64 x))
field-in_word (x ∷ ws) (suc w) b n h le =
    ap (λ a. field (bits 64 x ++ all_bits ws) a n) (next_place x w b)
    ∙ field-beyond (bits 64 x) (all_bits ws) (64 * w + b) n
    ∙ field-in_word ws w b n (omega arith) le

-- a field of the last m bits of word w and the first n bits of the next word
pub field-in_two : (ws : List ℕ) (w b m n : ℕ) → suc w < length ws → b + m ≡ 64 → n ≤ 64
    → field (all_bits ws) (64 * w + b) (m + n)
    ≡ field (bits 64 (get_or ws w 0)) b m ++ field (bits 64 (get_or ws (suc w) 0)) 0 n
unfolding all_bits
field-in_two [] w b m n h e le = absurd (omega arith)
field-in_two (x ∷ ws) zero b m n h e le =
    let first : 64 * 0 + b ≡ b = omega arith in
    ap (λ a. field (bits 64 x ++ all_bits ws) a (m + n)) first
    ∙ field-over (bits 64 x) (all_bits ws) b m n (omega (arith, length-bits 64 x))
    ∙ ap (λ bs. field (bits 64 x) b m ++ bs) (field-in_word ws 0 0 n (omega arith) (omega arith))
field-in_two (x ∷ ws) (suc w) b m n h e le =
    ap (λ a. field (bits 64 x ++ all_bits ws) a (m + n)) (next_place x w b)
    ∙ field-beyond (bits 64 x) (all_bits ws) (64 * w + b) (m + n)
    ∙ field-in_two ws w b m n (omega arith) e le

-- bits put within word w of a list of words, where the word becomes y
pub put-in_word : (ws : List ℕ) (w b : ℕ) (v : List ℕ) (y : ℕ) → w < length ws → b + length v ≤ 64
    → put (bits 64 (get_or ws w 0)) b v ≡ bits 64 y → put (all_bits ws) (64 * w + b) v ≡ all_bits (set ws w y)
unfolding all_bits
put-in_word [] w b v y h le e = absurd (omega arith)
put-in_word (x ∷ ws) zero b v y h le e =
    let first : 64 * 0 + b ≡ b = omega arith in
    ap (λ a. put (bits 64 x ++ all_bits ws) a v) first
    ∙ put-within (bits 64 x) (all_bits ws) b v (omega (arith, length-bits 64 x))
    ∙ ap (λ bs. bs ++ all_bits ws) e
put-in_word (x ∷ ws) (suc w) b v y h le e =
    ap (λ a. put (bits 64 x ++ all_bits ws) a v) (next_place x w b)
    ∙ put-beyond (bits 64 x) (all_bits ws) (64 * w + b) v
    ∙ ap (λ bs. bits 64 x ++ bs) (put-in_word ws w b v y (omega arith) le e)

-- bits put at the end of word w, which becomes y, and at the start of the next word, which becomes
-- z
pub put-in_two : (ws : List ℕ) (w b : ℕ) (v u : List ℕ) (y z : ℕ) → suc w < length ws → b + length v ≡ 64
    → length u ≤ 64
    → put (bits 64 (get_or ws w 0)) b v ≡ bits 64 y
    → put (bits 64 (get_or ws (suc w) 0)) 0 u ≡ bits 64 z
    → put (all_bits ws) (64 * w + b) (v ++ u) ≡ all_bits (set (set ws w y) (suc w) z)
unfolding all_bits
put-in_two [] w b v u y z h e le f g = absurd (omega arith)
put-in_two (x ∷ ws) zero b v u y z h e le f g =
    let first : 64 * 0 + b ≡ b = omega arith in
    ap (λ a. put (bits 64 x ++ all_bits ws) a (v ++ u)) first
    ∙ put-over (bits 64 x) (all_bits ws) b v u (omega (arith, length-bits 64 x))
    ∙ ap (λ bs. bs ++ put (all_bits ws) 0 u) f
    ∙ ap (λ bs. bits 64 y ++ bs) (put-in_word ws 0 0 u z (omega arith) (omega arith) g)
put-in_two (x ∷ ws) (suc w) b v u y z h e le f g =
    ap (λ a. put (bits 64 x ++ all_bits ws) a (v ++ u)) (next_place x w b)
    ∙ put-beyond (bits 64 x) (all_bits ws) (64 * w + b) (v ++ u)
    ∙ ap (λ bs. bits 64 x ++ bs) (put-in_two ws w b v u y z (omega arith) e le f g)

-- the number of a field within word w is a part of the word
pub num-in_word : (ws : List ℕ) (w b n : ℕ) → w < length ws → b + n ≤ 64
    → num (field (all_bits ws) (64 * w + b) n) ≡ part (get_or ws w 0) b n
num-in_word ws w b n h le = ap num (field-in_word ws w b n h le) ∙ num-field (get_or ws w 0) b n le

-- the number of a field that crosses from word w into the next
pub num-in_two : (ws : List ℕ) (w b m n : ℕ) → suc w < length ws → b + m ≡ 64 → n ≤ 64
    → num (field (all_bits ws) (64 * w + b) (m + n))
    ≡ part (get_or ws w 0) b m * 2 ^ n + part (get_or ws (suc w) 0) 0 n
num-in_two ws w b m n h e le =
    let front = field (bits 64 (get_or ws w 0)) b m in
    let back = field (bits 64 (get_or ws (suc w) 0)) 0 n in
    let size : length back ≡ n =
    ap length (field-word (get_or ws (suc w) 0) 0 n (omega arith))
    ∙ length-bits n (get_or ws (suc w) 0 / 2 ^ (64 - 0 - n)) in
    ap num (field-in_two ws w b m n h e le)
    ∙ num-append front back
    ∙ ap (λ k. num front * 2 ^ k + num back) size
    ∙ ap (λ x. x * 2 ^ n + num back) (num-field (get_or ws w 0) b m (omega arith))
    ∙ ap (λ x. part (get_or ws w 0) b m * 2 ^ n + x) (num-field (get_or ws (suc w) 0) 0 n (omega arith))

-- n bits put within word w replace the part of that word
pub put-part : (ws : List ℕ) (w b n v : ℕ) → w < length ws → b + n ≤ 64 → v < 2 ^ n
    → put (all_bits ws) (64 * w + b) (bits n v) ≡ all_bits (set ws w (with_part (get_or ws w 0) b n v))
put-part ws w b n v h le fits =
    put-in_word ws w b (bits n v) _ h (omega (arith, length-bits n v)) (put-word (get_or ws w 0) b n v le fits)

-- m + n bits put across the border of two words replace a part of each
pub put-parts : (ws : List ℕ) (w b m n v : ℕ) → suc w < length ws → b + m ≡ 64 → n ≤ 64 → v < 2 ^ (m + n)
    → put (all_bits ws) (64 * w + b) (bits (m + n) v)
    ≡ all_bits
    (set
    (set ws w (with_part (get_or ws w 0) b m (v / 2 ^ n)))
    (suc w)
    (with_part (get_or ws (suc w) 0) 0 n (v % 2 ^ n)))
put-parts ws w b m n v h e le fits =
    ap (λ bs. put (all_bits ws) (64 * w + b) bs)
    (bits-add m n v ∙ ap (λ bs. bits m (v / 2 ^ n) ++ bs) (sym (bits-mod n v)))
    ∙ put-in_two ws w b (bits m (v / 2 ^ n)) (bits n (v % 2 ^ n)) _ _ h
    (omega (arith, length-bits m (v / 2 ^ n)))
    (omega (arith, length-bits n (v % 2 ^ n)))
    (put-word (get_or ws w 0) b m (v / 2 ^ n) (omega arith) (shr_below v m n fits))
    (put-word (get_or ws (suc w) 0) 0 n (v % 2 ^ n) (omega arith) (mod_below _ _ (pow_pos n)))

-- ---- fields by the address of the first bit

address : (a : ℕ) → a ≡ 64 * (a / 64) + a % 64
address a = omega arith

pub num-at_word : (ws : List ℕ) (a n : ℕ) → 1 ≤ n → a % 64 + n ≤ 64 → a + n ≤ 64 * length ws
    → num (field (all_bits ws) a n) ≡ part (get_or ws (a / 64) 0) (a % 64) n
num-at_word ws a n some le inside =
    ap (λ k. num (field (all_bits ws) k n)) (address a)
    ∙ num-in_word ws (a / 64) (a % 64) n (omega arith) le

pub num-at_two : (ws : List ℕ) (a n : ℕ) → 64 < a % 64 + n → n ≤ 64 → a + n ≤ 64 * length ws
    → let m = 64 - a % 64 in
    num (field (all_bits ws) a n)
    ≡ part (get_or ws (a / 64) 0) (a % 64) m * 2 ^ (n - m) + part (get_or ws (a / 64 + 1) 0) 0 (n - m)
num-at_two ws a n over few inside =
    let m = 64 - a % 64 in
    let size : n ≡ m + (n - m) = omega arith in
    let next : suc (a / 64) ≡ a / 64 + 1 = omega arith in
    ap (λ k. num (field (all_bits ws) k n)) (address a)
    ∙ ap (λ k. num (field (all_bits ws) (64 * (a / 64) + a % 64) k)) size
    ∙ num-in_two ws (a / 64) (a % 64) m (n - m) (omega arith) (omega arith) (omega arith)
    ∙ ap (λ k. part (get_or ws (a / 64) 0) (a % 64) m * 2 ^ (n - m) + part (get_or ws k 0) 0 (n - m)) next

pub put-at_word : (ws : List ℕ) (a n v : ℕ) → 1 ≤ n → a % 64 + n ≤ 64 → a + n ≤ 64 * length ws → v < 2 ^ n
    → put (all_bits ws) a (bits n v)
    ≡ all_bits (set ws (a / 64) (with_part (get_or ws (a / 64) 0) (a % 64) n v))
put-at_word ws a n v some le inside fits =
    ap (λ k. put (all_bits ws) k (bits n v)) (address a)
    ∙ put-part ws (a / 64) (a % 64) n v (omega arith) le fits

pub put-at_two : (ws : List ℕ) (a n v : ℕ) → 64 < a % 64 + n → n ≤ 64 → a + n ≤ 64 * length ws → v < 2 ^ n
    → let m = 64 - a % 64 in
    put (all_bits ws) a (bits n v)
    ≡ all_bits
    (set
    (set ws (a / 64) (with_part (get_or ws (a / 64) 0) (a % 64) m (v / 2 ^ (n - m))))
    (a / 64 + 1)
    (with_part (get_or ws (a / 64 + 1) 0) 0 (n - m) (v % 2 ^ (n - m))))
put-at_two ws a n v over few inside fits =
    let m = 64 - a % 64 in
    let size : n ≡ m + (n - m) = omega arith in
    let next : suc (a / 64) ≡ a / 64 + 1 = omega arith in
    let P : ℕ → Type 0 = λ k. v < 2 ^ k in
    ap (λ k. put (all_bits ws) k (bits n v)) (address a)
    ∙ ap (λ k. put (all_bits ws) (64 * (a / 64) + a % 64) (bits k v)) size
    ∙ put-parts ws (a / 64) (a % 64) m (n - m) v
    (omega arith) (omega arith) (omega arith) (subst P size fits)
    ∙ ap
    (λ k.
    all_bits
    (set
    (set ws (a / 64) (with_part (get_or ws (a / 64) 0) (a % 64) m (v / 2 ^ (n - m))))
    k
    (with_part (get_or ws k 0) 0 (n - m) (v % 2 ^ (n - m)))))
    next

-- the bits of h followed by n bits, those of l
pub or-joined : (h l m n : ℕ) → h < 2 ^ m → l < 2 ^ n → m + n ≤ 64 → bit_or (h * 2 ^ n % 2 ^ 64) l ≡ h * 2 ^ n + l
or-joined h l m n high low room = ap (λ y. bit_or y l) (shl_whole h m n 64 high room) ∙ or_shifted h n l low

-- the bound of the number of two adjacent bit strings
pub below-joined : (h l m n k : ℕ) → h < 2 ^ m → l < 2 ^ n → k ≡ m + n → h * 2 ^ n + l < 2 ^ k
below-joined h l m n k high low size =
    let P : ℕ → Type 0 = λ y. h * 2 ^ n + l < y in
    let whole : 2 ^ n * 2 ^ m ≡ 2 ^ k =
    mul_comm (2 ^ n) (2 ^ m) ∙ sym (pow-add 2 m n) ∙ ap (λ y. 2 ^ y) (sym size) in
    subst P whole (mul-add-lt h (2 ^ n) l (2 ^ m) high low)

-- the last n bits of a word
pub part-last : (x n : ℕ) → n ≤ 64 → part x (64 - n) n ≡ x % 2 ^ n
part-last x n few =
    let none : 64 - (64 - n) - n ≡ 0 = omega arith in
    let whole : x / 1 ≡ x = omega arith in
    ap (λ k. x / 2 ^ k % 2 ^ n) none ∙ ap (λ y. y % 2 ^ n) whole
