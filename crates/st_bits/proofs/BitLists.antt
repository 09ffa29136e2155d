-- The list of bits of a number: parts of it, the number it encodes, and its fields.
use Rattle.st_bits.proofs.Common.{◌≡◌, ℕ, zero, suc, ◌+◌, ◌-◌, ◌*◌, ◌/◌, ◌%◌, ◌^◌, ◌<◌, ◌≤◌, List, [], ◌∷◌, ◌++◌, length, take, drop, refl, sym, ◌∙◌, ap, subst, arith, zero-add, add_assoc, mul_comm, length-append, append_assoc, take_at, drop_at, shr-shr, mod-pow-add, pow-add, shr_high, shr_split, mod_below, pow_pos, mul-add-lt, bit_at_cat_low, bits, num, field, put, part, with_part}
use Rattle.std.specs.Int.{bit_at}

joined : (b p q m n : ℕ) → b * (p * q) + (m * q + n) ≡ (b * p + m) * q + n
joined b p q m n = omega arith

spread : (h p q v r : ℕ) → h * (p * q) + v * q + r ≡ (h * p + v) * q + r
spread h p q v r = omega arith

pub length-bits : (n x : ℕ) → length (bits n x) ≡ n
unfolding bits
length-bits zero x = refl
length-bits (suc n) x = ap suc (length-bits n x)

-- the m + n lowest bits are the m bits above the last n, followed by the last n
pub bits-add : (m n x : ℕ) → bits (m + n) x ≡ bits m (x / 2 ^ n) ++ bits n x
unfolding bits
bits-add zero n x = ap (λ k. bits k x) (zero-add n)
bits-add (suc m) n x =
    let more : suc m + n ≡ suc (m + n) = omega arith in
    let turned : m + n ≡ n + m = omega arith in
    let top : bit_at x (m + n) ≡ bit_at (x / 2 ^ n) m =
    ap (λ k. x / 2 ^ k % 2) turned ∙ ap (λ y. y % 2) (sym (shr-shr x n m)) in
    ap (λ k. bits k x) more ∙ ap (λ b. b ∷ bits (m + n) x) top ∙ ap (λ bs. bit_at (x / 2 ^ n) m ∷ bs) (bits-add m n x)

-- bits above the last m do not affect the last n
pub bits-above : (n m h v : ℕ) → n ≤ m → bits n (h * 2 ^ m + v) ≡ bits n v
unfolding bits
bits-above zero m h v le = refl
bits-above (suc n) m h v le =
    let b : bit_at (h * 2 ^ m + v) n ≡ bit_at v n = bit_at_cat_low h m v n (omega arith) in
    ap (λ y. y ∷ bits n (h * 2 ^ m + v)) b ∙ ap (λ bs. bit_at v n ∷ bs) (bits-above n m h v (omega arith))

-- the number that the n lowest bits of x encode is x modulo 2 ^ n
pub num-bits : (n x : ℕ) → num (bits n x) ≡ x % 2 ^ n
unfolding bits num
num-bits zero x = omega arith
num-bits (suc n) x =
    let more : 1 + n ≡ suc n = omega arith in
    ap (λ k. bit_at x n * 2 ^ k + num (bits n x)) (length-bits n x)
    ∙ ap (λ y. bit_at x n * 2 ^ n + y) (num-bits n x)
    ∙ sym (mod-pow-add x 1 n)
    ∙ ap (λ k. x % 2 ^ k) more

pub num-append : (xs ys : List ℕ) → num (xs ++ ys) ≡ num xs * 2 ^ length ys + num ys
unfolding num
num-append [] ys = omega arith
num-append (b ∷ xs) ys =
    let p : 2 ^ length (xs ++ ys) ≡ 2 ^ length xs * 2 ^ length ys =
    ap (λ k. 2 ^ k) (length-append xs ys) ∙ pow-add 2 (length xs) (length ys) in
    ap (λ q. b * q + num (xs ++ ys)) p
    ∙ ap (λ y. b * (2 ^ length xs * 2 ^ length ys) + y) (num-append xs ys)
    ∙ joined b (2 ^ length xs) (2 ^ length ys) (num xs) (num ys)

-- a field of the bits of a number of a + n + k bits
pub field-bits : (x a n k : ℕ) → field (bits (a + (n + k)) x) a n ≡ bits n (x / 2 ^ k)
unfolding field
field-bits x a n k =
    ap (λ bs. take n (drop a bs)) (bits-add a (n + k) x)
    ∙ ap (λ bs. take n bs) (drop_at (bits a (x / 2 ^ (n + k))) (bits (n + k) x) a (length-bits a (x / 2 ^ (n + k))))
    ∙ ap (λ bs. take n bs) (bits-add n k x)
    ∙ take_at (bits n (x / 2 ^ k)) (bits k x) n (length-bits n (x / 2 ^ k))

-- a field of a word is the list of bits of a part of the word
pub field-word : (x a n : ℕ) → a + n ≤ 64 → field (bits 64 x) a n ≡ bits n (x / 2 ^ (64 - a - n))
field-word x a n h =
    let whole : 64 ≡ a + (n + (64 - a - n)) = omega arith in
    ap (λ k. field (bits k x) a n) whole ∙ field-bits x a n (64 - a - n)

pub num-field : (x a n : ℕ) → a + n ≤ 64 → num (field (bits 64 x) a n) ≡ part x a n
num-field x a n h = ap num (field-word x a n h) ∙ num-bits n (x / 2 ^ (64 - a - n))

-- the three parts of a number composed of a high part, n bits v and k low bits r
parts_of : (h n v k r : ℕ) → v < 2 ^ n → r < 2 ^ k
    → (h * 2 ^ (n + k) + v * 2 ^ k + r ≡ (h * 2 ^ n + v) * 2 ^ k + r) × ((h * 2 ^ (n + k) + v * 2 ^ k + r) / 2 ^ (n + k) ≡ h)
parts_of h n v k r fits below =
    let p : 2 ^ (n + k) ≡ 2 ^ n * 2 ^ k = pow-add 2 n k in
    let rest : v * 2 ^ k + r < 2 ^ (n + k) =
    let P : ℕ → Type 0 = λ m. v * 2 ^ k + r < m in
    subst P (mul_comm (2 ^ k) (2 ^ n) ∙ sym p) (mul-add-lt v (2 ^ k) r (2 ^ n) fits below) in (
      ap (λ q. h * q + v * 2 ^ k + r) p ∙ spread h (2 ^ n) (2 ^ k) v r,
      ap (λ y. y / 2 ^ (n + k)) (add_assoc (h * 2 ^ (n + k)) (v * 2 ^ k) r) ∙ shr_high h (n + k) (v * 2 ^ k + r) rest,
    )

-- the bits of a number composed of a high part, n bits v and k low bits r
pub bits-parts : (a h n v k r : ℕ) → v < 2 ^ n → r < 2 ^ k
    → bits (a + (n + k)) (h * 2 ^ (n + k) + v * 2 ^ k + r) ≡ bits a h ++ bits n v ++ bits k r
bits-parts a h n v k r fits below =
    let y = h * 2 ^ (n + k) + v * 2 ^ k + r in
    let split = parts_of h n v k r fits below in
    bits-add a (n + k) y
    ∙ ap (λ z. bits a z ++ bits (n + k) y) split.1
    ∙ ap (λ bs. bits a h ++ bs) (bits-add n k y)
    ∙ ap (λ z. bits a h ++ (bits n (z / 2 ^ k) ++ bits k z)) split.0
    ∙ ap (λ z. bits a h ++ (bits n z ++ bits k ((h * 2 ^ n + v) * 2 ^ k + r))) (shr_high (h * 2 ^ n + v) k r below)
    ∙ ap (λ bs. bits a h ++ (bs ++ bits k ((h * 2 ^ n + v) * 2 ^ k + r))) (bits-above n n h v (omega arith))
    ∙ ap (λ bs. bits a h ++ (bits n v ++ bs)) (bits-above k k (h * 2 ^ n + v) r (omega arith))
    ∙ sym (append_assoc (bits a h) (bits n v) (bits k r))

-- the k low bits of a number are those of its remainder modulo 2 ^ k
pub bits-mod : (k x : ℕ) → bits k (x % 2 ^ k) ≡ bits k x
bits-mod k x =
    sym (bits-above k k (x / 2 ^ k) (x % 2 ^ k) (omega arith)) ∙ ap (λ y. bits k y) (shr_split x k)

-- n bits put into the bits of a number of a + n + k bits
pub put-bits : (x a n k v : ℕ) → v < 2 ^ n
    → put (bits (a + (n + k)) x) a (bits n v)
    ≡ bits (a + (n + k)) (x / 2 ^ (n + k) * 2 ^ (n + k) + v * 2 ^ k + x % 2 ^ k)
unfolding put
put-bits x a n k v fits =
    let high = bits a (x / 2 ^ (n + k)) in
    let middle = bits n (x / 2 ^ k) in
    let low = bits k x in
    let cut : bits (a + (n + k)) x ≡ high ++ middle ++ low =
    bits-add a (n + k) x ∙ ap (λ bs. high ++ bs) (bits-add n k x) ∙ sym (append_assoc high middle low) in
    let front : take a (bits (a + (n + k)) x) ≡ high =
    ap (λ bs. take a bs) (bits-add a (n + k) x)
    ∙ take_at high (bits (n + k) x) a (length-bits a (x / 2 ^ (n + k))) in
    let size : length (high ++ middle) ≡ a + length (bits n v) =
    length-append high middle
    ∙ ap (λ m. m + length middle) (length-bits a (x / 2 ^ (n + k)))
    ∙ ap (λ m. a + m) (length-bits n (x / 2 ^ k) ∙ sym (length-bits n v)) in
    let back : drop (a + length (bits n v)) (bits (a + (n + k)) x) ≡ low =
    ap (λ bs. drop (a + length (bits n v)) bs) cut ∙ drop_at (high ++ middle) low _ size in
    ap (λ bs. bs ++ bits n v ++ drop (a + length (bits n v)) (bits (a + (n + k)) x)) front
    ∙ ap (λ bs. high ++ bits n v ++ bs) (back ∙ sym (bits-mod k x))
    ∙ sym (bits-parts a (x / 2 ^ (n + k)) n v k (x % 2 ^ k) fits (mod_below _ _ (pow_pos k)))

-- the bits of v put into the bits of a word are the bits of the word with that part
pub put-word : (x a n v : ℕ) → a + n ≤ 64 → v < 2 ^ n
    → put (bits 64 x) a (bits n v) ≡ bits 64 (with_part x a n v)
put-word x a n v h fits =
    let k = 64 - a - n in
    let whole : 64 ≡ a + (n + k) = omega arith in
    let tail : n + k ≡ 64 - a = omega arith in
    ap (λ m. put (bits m x) a (bits n v)) whole
    ∙ put-bits x a n k v fits
    ∙ ap (λ m. bits m (x / 2 ^ (n + k) * 2 ^ (n + k) + v * 2 ^ k + x % 2 ^ k)) (sym whole)
    ∙ ap (λ m. bits 64 (x / 2 ^ m * 2 ^ m + v * 2 ^ k + x % 2 ^ k)) tail
