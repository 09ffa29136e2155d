-- The operand words contain the field of storage.
use Rattle.st_exec.proofs.Common.{◌≡◌, ℕ, zero, suc, ◌+◌, ◌-◌, ◌*◌, ◌/◌, ◌%◌, ◌<◌, ◌≤◌, ◌^◌, List, [], ◌∷◌, length, Bool, true, false, if◌then◌else◌, refl, sym, ◌∙◌, ap, arith, get_or, nat_le, leb-true, all_bits, field, num, part, num-at_word, num-at_two, Machine, word, field_words, Words, AreOperands, AreFirstOperands, AreRead}

-- ---- windows

-- a field of storage within one word x
pub field-one : (ws : List ℕ) (a n x : ℕ) → 1 ≤ n → a % 64 + n ≤ 64 → a + n ≤ 64 * length ws → x ≡ get_or ws (a / 64) 0
    → num (field (all_bits (x ∷ [])) (a % 64) n) ≡ num (field (all_bits ws) a n)
field-one ws a n x some le inside read =
    let none : a % 64 / 64 ≡ 0 = omega arith in
    let same : a % 64 % 64 ≡ a % 64 = omega arith in
    num-at_word (x ∷ []) (a % 64) n some (omega arith) (omega arith)
    ∙ ap (λ k. part (get_or (x ∷ []) k 0) (a % 64 % 64) n) none
    ∙ ap (λ k. part x k n) same
    ∙ ap (λ y. part y (a % 64) n) read
    ∙ sym (num-at_word ws a n some le inside)

-- a field of storage that crosses from word x into word y
pub field-two : (ws : List ℕ) (a n x y : ℕ) → 64 < a % 64 + n → n ≤ 64 → a + n ≤ 64 * length ws
    → x ≡ get_or ws (a / 64) 0 → y ≡ get_or ws (a / 64 + 1) 0
    → num (field (all_bits (x ∷ y ∷ [])) (a % 64) n) ≡ num (field (all_bits ws) a n)
field-two ws a n x y over few inside read next =
    let none : a % 64 / 64 ≡ 0 = omega arith in
    let same : a % 64 % 64 ≡ a % 64 = omega arith in
    let f = λ (u v k : ℕ). part u k (64 - k) * 2 ^ (n - (64 - k)) + part v 0 (n - (64 - k)) in
    num-at_two (x ∷ y ∷ []) (a % 64) n (omega arith) few (omega arith)
    ∙ ap (λ k. f (get_or (x ∷ y ∷ []) k 0) (get_or (x ∷ y ∷ []) (k + 1) 0) (a % 64 % 64)) none
    ∙ ap (λ k. f x y k) same
    ∙ ap (λ u. f u y (a % 64)) read
    ∙ ap (λ v. f (get_or ws (a / 64) 0) v (a % 64)) next
    ∙ sym (num-at_two ws a n over few inside)

-- ---- the words of a field

some_word : (b : Bool) → 0 < (if b then 1 else 2)
some_word true = omega arith
some_word false = omega arith

two_words : (m : ℕ) (b : Bool) → nat_le m 64 ≡ b → 64 < m → 1 < (if b then 1 else 2)
two_words m true e over = let le : m ≤ 64 = leb-true m 64 e in omega arith
two_words m false e over = omega arith

pub read-first : (a n : ℕ) (operands : List ℕ) (t : Machine) → AreRead (field_words a n) operands t → 32 ≤ a / 64
    → get_or operands 0 0 ≡ word t (a / 64)
unfolding field_words
read-first a n operands t r above =
    let place : a / 64 + 0 ≡ a / 64 = omega arith in
    r.first 0 (omega arith) (some_word (nat_le (a % 64 + n) 64)) (omega arith) ∙ ap (word t) place

pub read-next : (a n : ℕ) (operands : List ℕ) (t : Machine) → AreRead (field_words a n) operands t → 64 < a % 64 + n
    → 32 ≤ a / 64 + 1 → get_or operands 1 0 ≡ word t (a / 64 + 1)
unfolding field_words
read-next a n operands t r over above =
    r.first 1 (omega arith) (two_words (a % 64 + n) (nat_le (a % 64 + n) 64) refl over) above

-- ---- the first two operands

first-each : (w : Words) (x y : ℕ) (s : Machine) (k : ℕ) → (0 < w.len → x ≡ word s (w.first + 0))
    → (1 < w.len → y ≡ word s (w.first + 1)) → k < 2 → k < w.len → get_or (x ∷ y ∷ []) k 0 ≡ word s (w.first + k)
first-each w x y s zero one two few some = one some
first-each w x y s (suc zero) one two few some = two some
first-each w x y s (suc (suc k)) one two few some = absurd (omega arith)

pub first-two : (w : Words) (x y : ℕ) (s : Machine) → (0 < w.len → x ≡ word s (w.first + 0))
    → (1 < w.len → y ≡ word s (w.first + 1)) → AreFirstOperands w (x ∷ y ∷ []) s
first-two w x y s one two = record { first = λ k few some. first-each w x y s k one two few some }

pub first-of_operands : (w : Words) (operands : List ℕ) (s : Machine) → AreOperands w operands s
    → AreFirstOperands w (get_or operands 0 0 ∷ get_or operands 1 0 ∷ []) s
first-of_operands w operands s h = first-two w _ _ s (h.first 0) (h.first 1)
