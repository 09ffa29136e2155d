-- The codes in the bytes of a field replaced, and numbers in decimal digits.
use Rattle.st_dec.proofs.Common.{◌≡◌, ℕ, zero, suc, ◌+◌, ◌-◌, ◌*◌, ◌/◌, ◌%◌, ◌^◌, ◌<◌, ◌≤◌, List, [], ◌∷◌, length, map, refl, sym, ap, subst, ◌∙◌, arith, lit<, lit≤, length-map, mod-eq_of_lt, mul-le-mul_left, pow-suc, mod-lt, pow-le-pow_right, pow-add, digits_of, power_above_zero, bytes, number_of_bytes, decimal, bytes_with_codes, codes_with_zones}
use Rattle.st_dec.proofs.DigitLemmas.{AllBelow, joined-below, joined-bytes, joined-decimal, digit_and_rest}
use Rattle.st_dec.proofs.ListLemmas.{length-bytes, length-decimal, bytes-below, decimal-below, codes-below, bytes-joined}
use Rattle.st_dec.proofs.LoopLemmas.{byte_below}
use Rattle.st_dec.proofs.PartLemmas.{length-codes}

-- spreading the number of a list of codes over bytes gives the number of these codes with zones
pub spread-joined : (b zone n x : ℕ) (cs : List ℕ) → AllBelow 4 cs → length cs ≡ n → x ≡ number_of_bytes 4 cs → number_of_bytes b (codes_with_zones zone (bytes 4 n x)) ≡ number_of_bytes b (codes_with_zones zone cs)
spread-joined b zone n x cs all is made = rw (made, bytes-joined 4 n cs all is) refl

-- a byte with its code replaced
recode_first : (w r z j n d c : ℕ) → r + z ≡ j + n → d / 16 * 16 + c + w * r + (0 * 16 + d % 16 + w * z) ≡ d + w * j + (0 * 16 + c + w * n)
recode_first w r z j n d c rest =
    let scaled : w * (r + z) ≡ w * (j + n) = ap (λ k. w * k) rest in
    omega (arith, scaled)

-- the old codes are subtracted and the new ones added
recode_sum : (b : ℕ) (ds cs : List ℕ) → length ds ≡ length cs → number_of_bytes b (bytes_with_codes ds cs) + number_of_bytes b (codes_with_zones 0 (map (λ d. d % 16) ds)) ≡ number_of_bytes b ds + number_of_bytes b (codes_with_zones 0 cs)
unfolding number_of_bytes bytes_with_codes
recode_sum b [] [] same = refl
recode_sum b [] (c ∷ cs) same = absurd (omega arith)
recode_sum b (d ∷ ds) [] same = absurd (omega arith)
recode_sum b (d ∷ ds) (c ∷ cs) same = recode_first (2 ^ b) _ _ _ _ d c (recode_sum b ds cs (omega arith))

codes_first_le : (w z j d : ℕ) → z ≤ j → 0 * 16 + d % 16 + w * z ≤ d + w * j
codes_first_le w z j d rest = let scaled : w * z ≤ w * j = mul-le-mul_left w rest in omega arith

codes_le : (b : ℕ) (ds : List ℕ) → number_of_bytes b (codes_with_zones 0 (map (λ d. d % 16) ds)) ≤ number_of_bytes b ds
unfolding number_of_bytes
codes_le b [] = lit≤ tt
codes_le b (d ∷ ds) = codes_first_le (2 ^ b) _ _ d (codes_le b ds)

-- the parts of a field's magnitude: it contains its codes, and they can be replaced
whole_magnitude : (b n m : ℕ) → m < 2 ^ (b * n) → number_of_bytes b (bytes b n m) ≡ m
whole_magnitude b n m room = joined-bytes b n m ∙ mod-eq_of_lt room

old_codes : (b n m o s : ℕ) → o ≡ number_of_bytes 4 (map (λ d. d % 16) (bytes b n m)) → s ≡ number_of_bytes b (codes_with_zones 0 (bytes 4 n o)) → s ≡ number_of_bytes b (codes_with_zones 0 (map (λ d. d % 16) (bytes b n m)))
old_codes b n m o s old is = is ∙ spread-joined b 0 n o (map (λ d. d % 16) (bytes b n m)) (codes-below (bytes b n m)) (length-codes b n m) old

pub old_codes-le : (b n m o s : ℕ) → m < 2 ^ (b * n) → o ≡ number_of_bytes 4 (map (λ d. d % 16) (bytes b n m)) → s ≡ number_of_bytes b (codes_with_zones 0 (bytes 4 n o)) → s ≤ m
old_codes-le b n m o s room codes is =
    let old : s ≡ number_of_bytes b (codes_with_zones 0 (map (λ d. d % 16) (bytes b n m))) = old_codes b n m o s codes is in
    let inside : number_of_bytes b (codes_with_zones 0 (map (λ d. d % 16) (bytes b n m))) ≤ number_of_bytes b (bytes b n m) = codes_le b (bytes b n m) in
    let whole : number_of_bytes b (bytes b n m) ≡ m = whole_magnitude b n m room in
    omega arith

pub codes_exchanged : (b n m o x s t : ℕ) → m < 2 ^ (b * n) → o ≡ number_of_bytes 4 (map (λ d. d % 16) (bytes b n m)) → s ≡ number_of_bytes b (codes_with_zones 0 (bytes 4 n o)) → t ≡ number_of_bytes b (codes_with_zones 0 (bytes 4 n x)) → m - s + t ≡ number_of_bytes b (bytes_with_codes (bytes b n m) (bytes 4 n x))
codes_exchanged b n m o x s t room codes is new =
    let old : s ≡ number_of_bytes b (codes_with_zones 0 (map (λ d. d % 16) (bytes b n m))) = old_codes b n m o s codes is in
    let inside : s ≤ m = old_codes-le b n m o s room codes is in
    let whole : number_of_bytes b (bytes b n m) ≡ m = whole_magnitude b n m room in
    let same : length (bytes b n m) ≡ length (bytes 4 n x) = length-bytes b n m ∙ sym (length-bytes 4 n x) in
    let both : number_of_bytes b (bytes_with_codes (bytes b n m) (bytes 4 n x)) + number_of_bytes b (codes_with_zones 0 (map (λ d. d % 16) (bytes b n m))) ≡ number_of_bytes b (bytes b n m) + number_of_bytes b (codes_with_zones 0 (bytes 4 n x)) = recode_sum b (bytes b n m) (bytes 4 n x) same in
    omega arith

-- bytes with replaced codes fit
code_in_byte : (b d c : ℕ) → 4 ≤ b → d < 2 ^ b → c < 16 → d / 16 * 16 + c < 2 ^ b
code_in_byte b d c wide digit code =
    let whole : b ≡ b - 4 + 4 = omega arith in
    let power : 2 ^ b ≡ 2 ^ (b - 4) * 16 = ap (λ k. 2 ^ k) whole ∙ pow-add 2 (b - 4) 4 in
    let zone : d / 16 < 2 ^ (b - 4) = omega arith in
    byte_below b (d / 16) c wide zone code

recoded-below : (b : ℕ) (ds cs : List ℕ) → 4 ≤ b → AllBelow b ds → AllBelow 4 cs → AllBelow b (bytes_with_codes ds cs)
unfolding bytes_with_codes
recoded-below b [] cs wide all codes = tt
recoded-below b (d ∷ ds) [] wide all codes = tt
recoded-below b (d ∷ ds) (c ∷ cs) wide all codes = (code_in_byte b d c wide all.0 codes.0, recoded-below b ds cs wide all.1 codes.1)

length-recoded : (ds cs : List ℕ) → length ds ≡ length cs → length (bytes_with_codes ds cs) ≡ length ds
unfolding bytes_with_codes
length-recoded [] cs same = refl
length-recoded (d ∷ ds) [] same = absurd (omega arith)
length-recoded (d ∷ ds) (c ∷ cs) same = ap suc (length-recoded ds cs (omega arith))

pub recoded_fits : (b n m x : ℕ) → 4 ≤ b → number_of_bytes b (bytes_with_codes (bytes b n m) (bytes 4 n x)) < 2 ^ (b * n)
recoded_fits b n m x wide =
    let same : length (bytes b n m) ≡ length (bytes 4 n x) = length-bytes b n m ∙ sym (length-bytes 4 n x) in
    let count : length (bytes_with_codes (bytes b n m) (bytes 4 n x)) ≡ n = length-recoded (bytes b n m) (bytes 4 n x) same ∙ length-bytes b n m in
    subst (λ k. number_of_bytes b (bytes_with_codes (bytes b n m) (bytes 4 n x)) < 2 ^ (b * k)) count
    (joined-below b (bytes_with_codes (bytes b n m) (bytes 4 n x)) (recoded-below b (bytes b n m) (bytes 4 n x) wide (bytes-below b n m) (bytes-below 4 n x)))

zoned-below : (b zone : ℕ) (cs : List ℕ) → 4 ≤ b → zone < 2 ^ (b - 4) → AllBelow 4 cs → AllBelow b (codes_with_zones zone cs)
zoned-below b zone [] wide small codes = tt
zoned-below b zone (c ∷ cs) wide small codes = (byte_below b zone c wide small codes.0, zoned-below b zone cs wide small codes.1)

pub zoned_fits : (b zone n : ℕ) (cs : List ℕ) → 4 ≤ b → zone < 2 ^ (b - 4) → AllBelow 4 cs → length cs ≡ n → number_of_bytes b (codes_with_zones zone cs) < 2 ^ (b * n)
zoned_fits b zone n cs wide small codes count =
    let all : length (codes_with_zones zone cs) ≡ n = length-map cs (λ c. zone * 16 + c) ∙ count in
    subst (λ k. number_of_bytes b (codes_with_zones zone cs) < 2 ^ (b * k)) all (joined-below b (codes_with_zones zone cs) (zoned-below b zone cs wide small codes))

-- the bytes of the number of decimal digits are these digits
pub bytes-decimal : (n t x : ℕ) → x ≡ number_of_bytes 4 (decimal n t) → bytes 4 n x ≡ decimal n t
bytes-decimal n t x is = rw is (bytes-joined 4 n (decimal n t) (decimal-below n t) (length-decimal n t))

pub decimal_fits : (n t : ℕ) → number_of_bytes 4 (decimal n t) < 2 ^ (4 * n)
decimal_fits n t = subst (λ k. number_of_bytes 4 (decimal n t) < 2 ^ (4 * k)) (length-decimal n t) (joined-below 4 (decimal n t) (decimal-below n t))

-- the digits of a number that is reduced to n digits
decimal-zero : (k : ℕ) → number_of_bytes 4 (decimal k 0) ≡ 0
unfolding number_of_bytes decimal
decimal-zero zero = refl
decimal-zero (suc k) = rw (decimal-zero k) refl

cut_first : (v p : ℕ) → 0 < p → v % (p * 10) % 10 ≡ v % 10
cut_first v p some = let parts : v % 10 + 10 * (v / 10 % p) ≡ v % (p * 10) = digit_and_rest v 10 p (lit< tt) some in omega arith

cut_rest : (v p : ℕ) → 0 < p → v % (p * 10) / 10 ≡ v / 10 % p
cut_rest v p some = let parts : v % 10 + 10 * (v / 10 % p) ≡ v % (p * 10) = digit_and_rest v 10 p (lit< tt) some in omega arith

decimal-cut : (k n v : ℕ) → n ≤ k → number_of_bytes 4 (decimal k (v % 10 ^ n)) ≡ number_of_bytes 4 (decimal n v)
unfolding number_of_bytes decimal
decimal-cut k zero v few = let none : v % 1 ≡ 0 = omega arith in rw none (decimal-zero k)
decimal-cut zero (suc n) v few = absurd (omega arith)
decimal-cut (suc k) (suc n) v few =
    rw (pow-suc 10 n, cut_first v (10 ^ n) (power_above_zero n), cut_rest v (10 ^ n) (power_above_zero n), decimal-cut k n (v / 10) (omega arith)) refl

pub digits_of-cut : (n v d : ℕ) → n ≤ 32 → d ≡ digits_of 32 (v % 10 ^ n) → d ≡ number_of_bytes 4 (decimal n v)
digits_of-cut n v d few is = is ∙ sym (joined-decimal 32 (v % 10 ^ n)) ∙ decimal-cut 32 n v few

pub cut_small : (n v : ℕ) → n ≤ 32 → v % 10 ^ n < 10 ^ 32
cut_small n v few =
    let below : v % 10 ^ n < 10 ^ n = mod-lt v (power_above_zero n) in
    let power : 10 ^ n ≤ 10 ^ 32 = pow-le-pow_right {n = 10} (lit< tt) few in
    omega arith
