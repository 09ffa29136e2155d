-- Parts of lists of digits, and their numbers.
use Rattle.st_dec.proofs.Common.{◌≡◌, ℕ, zero, suc, ◌+◌, ◌*◌, ◌/◌, ◌%◌, ◌^◌, ◌<◌, ◌≤◌, List, [], ◌∷◌, ◌++◌, length, map, take, drop, replicate, ◌||◌, refl, sym, ap, arith, ltb, leb, unary_clauses, mod-eq_of_lt, div-div-eq-div-mul, div-eq_of_lt, pow_pos, le-div, value_of_digits, bytes, number_of_bytes, codes_value, decimal, any_code}
use Rattle.std.proofs.lemmas.Bool.Decides.{nat_tests}
use Rattle.st_dec.proofs.DigitLemmas.{AllBelow, next_power, digit_and_rest, value_of-first}

-- the number of bytes in the list
pub length-bytes : (b n x : ℕ) → length (bytes b n x) ≡ n
unfolding bytes
length-bytes b zero x = refl
length-bytes b (suc n) x = ap suc (length-bytes b n (x / 2 ^ b))

pub length-decimal : (n v : ℕ) → length (decimal n v) ≡ n
unfolding decimal
length-decimal zero v = refl
length-decimal (suc n) v = ap suc (length-decimal n (v / 10))

-- the bytes of a number fit in b bits
pub bytes-below : (b n x : ℕ) → AllBelow b (bytes b n x)
unfolding bytes
bytes-below b zero x = tt
bytes-below b (suc n) x =
    let some : 0 < 2 ^ b = pow_pos b in
    (omega arith, bytes-below b n (x / 2 ^ b))

pub decimal-below : (n v : ℕ) → AllBelow 4 (decimal n v)
unfolding decimal
decimal-below zero v = tt
decimal-below (suc n) v = (omega arith, decimal-below n (v / 10))

pub codes-below : (ds : List ℕ) → AllBelow 4 (map (λ d. d % 16) ds)
codes-below [] = tt
codes-below (d ∷ ds) = (omega arith, codes-below ds)

pub zeros-below : (b n : ℕ) → AllBelow b (replicate n 0)
zeros-below b zero = tt
zeros-below b (suc n) = (pow_pos b, zeros-below b n)

pub append-below : (b : ℕ) (xs ys : List ℕ) → AllBelow b xs → AllBelow b ys → AllBelow b (xs ++ ys)
append-below b [] ys front back = back
append-below b (x ∷ xs) ys front back = (front.0, append-below b xs ys front.1 back)

pub take-below : (b n : ℕ) (xs : List ℕ) → AllBelow b xs → AllBelow b (take n xs)
take-below b zero xs all = tt
take-below b (suc n) [] all = tt
take-below b (suc n) (x ∷ xs) all = (all.0, take-below b n xs all.1)

pub drop-below : (b n : ℕ) (xs : List ℕ) → AllBelow b xs → AllBelow b (drop n xs)
drop-below b zero xs all = all
drop-below b (suc n) [] all = tt
drop-below b (suc n) (x ∷ xs) all = drop-below b n xs all.1

-- the value of the codes of a number
pub value-bytes : (n x : ℕ) → codes_value (bytes 4 n x) ≡ value_of_digits n x
unfolding bytes codes_value value_of_digits
value-bytes zero x = refl
value-bytes (suc n) x = rw (value-bytes n (x / 16)) (sym (value_of-first n x))

-- the number of a part of a list
first_mod : (c r w p : ℕ) → c < w → 0 < p → c + w * (r % p) ≡ (c + w * r) % (p * w)
first_mod c r w p small some =
    let front : (c + w * r) % w ≡ c = grind arith in
    let rest : (c + w * r) / w ≡ r = grind arith in
    let both : (c + w * r) % w + w * ((c + w * r) / w % p) ≡ (c + w * r) % (p * w) = digit_and_rest (c + w * r) w p (omega arith) some in
    rw (front, rest) at both

pub joined-take : (b n : ℕ) (xs : List ℕ) → AllBelow b xs → number_of_bytes b (take n xs) ≡ number_of_bytes b xs % 2 ^ (b * n)
unfolding number_of_bytes
joined-take b zero xs all = simp unary_clauses (omega arith)
joined-take b (suc n) [] all = let some : 0 < 2 ^ (b * suc n) = pow_pos (b * suc n) in sym (mod-eq_of_lt some)
joined-take b (suc n) (x ∷ xs) all =
    rw (joined-take b n xs all.1, next_power b n)
    (first_mod x (number_of_bytes b xs) (2 ^ b) (2 ^ (b * n)) all.0 (pow_pos (b * n)))

first_div : (c r w p : ℕ) → c < w → (c + w * r) / (w * p) ≡ r / p
first_div c r w p small =
    let rest : (c + w * r) / w ≡ r = grind arith in
    rw (← div-div-eq-div-mul (c + w * r) w p, rest) refl

pub joined-drop : (b n : ℕ) (xs : List ℕ) → AllBelow b xs → number_of_bytes b (drop n xs) ≡ number_of_bytes b xs / 2 ^ (b * n)
unfolding number_of_bytes
joined-drop b zero xs all = simp unary_clauses (omega arith)
joined-drop b (suc n) [] all = let some : 0 < 2 ^ (b * suc n) = pow_pos (b * suc n) in sym (div-eq_of_lt some)
joined-drop b (suc n) (x ∷ xs) all =
    let turned : 2 ^ (b * n) * 2 ^ b ≡ 2 ^ b * 2 ^ (b * n) = omega arith in
    rw (joined-drop b n xs all.1, next_power b n, turned) (sym (first_div x (number_of_bytes b xs) (2 ^ b) (2 ^ (b * n)) all.0))

pub joined-zeros-append : (b n : ℕ) (xs : List ℕ) → number_of_bytes b (replicate n 0 ++ xs) ≡ number_of_bytes b xs * 2 ^ (b * n)
unfolding number_of_bytes
joined-zeros-append b zero xs = simp unary_clauses (omega arith)
joined-zeros-append b (suc n) xs = rw (joined-zeros-append b n xs, next_power b n) (omega arith)

pub joined-zeros : (b n : ℕ) → number_of_bytes b (replicate n 0) ≡ 0
unfolding number_of_bytes
joined-zeros b zero = refl
joined-zeros b (suc n) = rw (joined-zeros b n) (omega arith)

pub joined-append-zeros : (b n : ℕ) (xs : List ℕ) → number_of_bytes b (xs ++ replicate n 0) ≡ number_of_bytes b xs
unfolding number_of_bytes
joined-append-zeros b n [] = joined-zeros b n
joined-append-zeros b n (x ∷ xs) = rw (joined-append-zeros b n xs) refl

-- the list of digits of the number of a list is that list
first_of : (c r w : ℕ) → c < w → (c + w * r) % w ≡ c
first_of c r w small = grind arith

rest_of : (c r w : ℕ) → c < w → (c + w * r) / w ≡ r
rest_of c r w small = grind arith

pub bytes-joined : (b n : ℕ) (xs : List ℕ) → AllBelow b xs → length xs ≡ n → bytes b n (number_of_bytes b xs) ≡ xs
unfolding bytes number_of_bytes
bytes-joined b zero [] all is = refl
bytes-joined b (suc n) [] all is = absurd (omega arith)
bytes-joined b zero (x ∷ xs) all is = absurd (omega arith)
bytes-joined b (suc n) (x ∷ xs) all is =
    rw (first_of x (number_of_bytes b xs) (2 ^ b) all.0, rest_of x (number_of_bytes b xs) (2 ^ b) all.0, bytes-joined b n xs all.1 (omega arith)) refl

-- a list has a nonzero code if and only if its number is not zero
any_first : (c r : ℕ) → (ltb 0 c || ltb 0 r) ≡ ltb 0 (c + 16 * r)
any_first c r = grind (arith, nat_tests)

pub any_code-joined : (cs : List ℕ) → any_code cs ≡ ltb 0 (number_of_bytes 4 cs)
unfolding number_of_bytes
any_code-joined [] = refl
any_code-joined (c ∷ cs) = rw (any_code-joined cs) (any_first c (number_of_bytes 4 cs))

-- the codes past a place are nonzero if and only if the number is at least the power of that place
quotient_some : (x w : ℕ) → 0 < w → ltb 0 (x / w) ≡ leb w x
quotient_some x w some =
    let up : w ≤ x → 1 ≤ x / w = λ h. le-div 1 x w some (omega arith) in
    let down : x < w → x / w ≡ 0 = λ h. div-eq_of_lt h in
    grind (arith, nat_tests)

pub any_code-drop : (n : ℕ) (cs : List ℕ) → AllBelow 4 cs → any_code (drop n cs) ≡ leb (2 ^ (4 * n)) (number_of_bytes 4 cs)
any_code-drop n cs all =
    rw (any_code-joined (drop n cs), joined-drop 4 n cs all) (quotient_some (number_of_bytes 4 cs) (2 ^ (4 * n)) (pow_pos (4 * n)))
