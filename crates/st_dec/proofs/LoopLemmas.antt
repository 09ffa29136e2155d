-- The loops over digits, which add each digit at its place, from the right.
use Rattle.st_dec.proofs.Common.{◌≡◌, ℕ, suc, ◌+◌, ◌-◌, ◌*◌, ◌/◌, ◌%◌, ◌^◌, ◌<◌, ◌≤◌, map, refl, ap, subst, ◌∙◌, arith, add-one, mod-eq_of_lt, pow_pos, pow_mono, mod-mod-pow, pow-add, bytes, number_of_bytes, codes_with_zones}
use Rattle.st_dec.proofs.DigitLemmas.{next_power}

digit_in_place : (d w x p : ℕ) → d < w → x < p → x + d * p < p * w
digit_in_place d w x p digit below = grind arith

-- the bound of a number with one more digit
more_below : (b p d x : ℕ) → d < 2 ^ b → x < 2 ^ (b * p) → x + d * 2 ^ (b * p) < 2 ^ (b * (p + 1))
more_below b p d x digit below = rw (add-one, next_power b p) (digit_in_place d (2 ^ b) x (2 ^ (b * p)) digit below)

-- the shift of a digit to its place loses no bits
whole : (b p d : ℕ) → d < 2 ^ b → b * (p + 1) ≤ 64 → d * 2 ^ (b * p) % 2 ^ 64 ≡ d * 2 ^ (b * p)
whole b p d digit room =
    let below : 0 + d * 2 ^ (b * p) < 2 ^ (b * (p + 1)) = more_below b p d 0 digit (pow_pos (b * p)) in
    let word : 2 ^ (b * (p + 1)) ≤ 2 ^ 64 = pow_mono room in
    mod-eq_of_lt (omega arith)

pub digit_below : (b p d x : ℕ) → d < 2 ^ b → b * (p + 1) ≤ 64 → x < 2 ^ (b * p) → x + d * 2 ^ (b * p) % 2 ^ 64 < 2 ^ (b * (p + 1))
digit_below b p d x digit room below = rw (whole b p d digit room) (more_below b p d x digit below)

pub digit_fits : (b p d x : ℕ) → d < 2 ^ b → b * (p + 1) ≤ 64 → x < 2 ^ (b * p) → x + d * 2 ^ (b * p) % 2 ^ 64 < 2 ^ 64
digit_fits b p d x digit room below =
    let word : 2 ^ (b * (p + 1)) ≤ 2 ^ 64 = pow_mono room in
    let more : x + d * 2 ^ (b * p) % 2 ^ 64 < 2 ^ (b * (p + 1)) = digit_below b p d x digit room below in
    omega arith

-- the sum of the digits so far and the remaining digits is unchanged after one more digit
digit_moved : (b p d x rest total : ℕ) → d < 2 ^ b → b * (p + 1) ≤ 64 → x + 2 ^ (b * p) * (d + 2 ^ b * rest) ≡ total → x + d * 2 ^ (b * p) % 2 ^ 64 + 2 ^ (b * (p + 1)) * rest ≡ total
digit_moved b p d x rest total digit room before = rw (whole b p d digit room, add-one, next_power b p) (omega (arith, before))

-- the number of the codes of n bytes
abbrev pub codes_left : ℕ → ℕ → ℕ → ℕ
codes_left b n x = number_of_bytes 4 (map (λ d. d % 16) (bytes b n x))

code_of_byte : (x b : ℕ) → 4 ≤ b → x % 2 ^ b % 16 ≡ x % 16
code_of_byte x b wide =
    let whole : b - 4 + 4 ≡ b = omega arith in
    subst (λ k. x % 2 ^ k % 2 ^ 4 ≡ x % 2 ^ 4) whole (mod-mod-pow x (b - 4) 4)

codes_left-first : (b n x : ℕ) → 4 ≤ b → codes_left b (suc n) x ≡ x % 16 + 16 * codes_left b n (x / 2 ^ b)
unfolding bytes number_of_bytes
codes_left-first b n x wide = rw (code_of_byte x b wide) refl

pub codes_next : (b n p codes rest total : ℕ) → 4 ≤ b → p < n → 4 * (p + 1) ≤ 64 → codes + 2 ^ (4 * p) * codes_left b (n - p) rest ≡ total → codes + rest % 16 * 2 ^ (4 * p) % 2 ^ 64 + 2 ^ (4 * (p + 1)) * codes_left b (n - (p + 1)) (rest / 2 ^ b) ≡ total
codes_next b n p codes rest total wide more room before =
    let one_more : n - p ≡ suc (n - (p + 1)) = omega arith in
    digit_moved 4 p (rest % 16) codes (codes_left b (n - (p + 1)) (rest / 2 ^ b)) total (omega arith) room
    (rw (one_more, codes_left-first b (n - (p + 1)) rest wide) at before)

-- the number of n codes, each with the zone
abbrev pub spread_left : ℕ → ℕ → ℕ → ℕ → ℕ
spread_left b zone n x = number_of_bytes b (codes_with_zones zone (bytes 4 n x))

spread_left-first : (b zone n x : ℕ) → spread_left b zone (suc n) x ≡ zone * 16 + x % 16 + 2 ^ b * spread_left b zone n (x / 16)
unfolding bytes number_of_bytes
spread_left-first b zone n x = refl

pub spread_next : (b zone n p mag rest total : ℕ) → zone * 16 + rest % 16 < 2 ^ b → p < n → b * (p + 1) ≤ 64 → mag + 2 ^ (b * p) * spread_left b zone (n - p) rest ≡ total → mag + (zone * 16 + rest % 16) * 2 ^ (b * p) % 2 ^ 64 + 2 ^ (b * (p + 1)) * spread_left b zone (n - (p + 1)) (rest / 16) ≡ total
spread_next b zone n p mag rest total digit more room before =
    let one_more : n - p ≡ suc (n - (p + 1)) = omega arith in
    digit_moved b p (zone * 16 + rest % 16) mag (spread_left b zone (n - (p + 1)) (rest / 16)) total digit room
    (rw (one_more, spread_left-first b zone (n - (p + 1)) rest) at before)

-- after the last digit, nothing remains
pub codes_done : (b n p w codes rest total : ℕ) → n ≤ p → codes + w * codes_left b (n - p) rest ≡ total → codes ≡ total
unfolding bytes number_of_bytes
codes_done b n p w codes rest total done all =
    let none : n - p ≡ 0 = omega arith in
    let left : codes + w * 0 ≡ total = rw none at all in
    omega (arith, left)

pub spread_done : (b zone n p w mag rest total : ℕ) → n ≤ p → mag + w * spread_left b zone (n - p) rest ≡ total → mag ≡ total
unfolding bytes number_of_bytes
spread_done b zone n p w mag rest total done all =
    let none : n - p ≡ 0 = omega arith in
    let left : mag + w * 0 ≡ total = rw none at all in
    omega (arith, left)

-- before the first digit, everything remains
pub all_left : (f : ℕ → ℕ) (n k : ℕ) → n ≡ k → 0 + 1 * f (n - 0) ≡ f k
all_left f n k is = rw is (let none : k - 0 ≡ k = omega arith in rw none (omega arith))

-- a zone and a code fit in a byte
pub byte_below : (b zone code : ℕ) → 4 ≤ b → zone < 2 ^ (b - 4) → code < 16 → zone * 16 + code < 2 ^ b
byte_below b zone code wide room small =
    let whole : b ≡ b - 4 + 4 = omega arith in
    let power : 2 ^ b ≡ 2 ^ (b - 4) * 16 = ap (λ k. 2 ^ k) whole ∙ pow-add 2 (b - 4) 4 in
    rw power (omega arith)

-- a digit of a field fits in a word at its place
pub digit_room : (b n p : ℕ) → p < n → b * n ≤ 64 → b * (p + 1) ≤ 64
digit_room b n p inside room = grind arith
