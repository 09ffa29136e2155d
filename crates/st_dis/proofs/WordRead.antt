-- The bits of a word's statements, concatenated, are the word.
use Rattle.st_dis.proofs.Common.{◌≡◌, ◌<◌, ◌+◌, ◌*◌, ◌/◌, ◌%◌, ◌^◌, ◌==◌, ℕ, true, false, nat_le, nat_lt, List, [], ◌∷◌, length, Option, Some, None, if◌then◌else◌, is_none, refl, ap, ◌∙◌, arith, nat_tests, Data, accepts_all, values_of, naming_at_start, value_fault, in_range, fits, on_boundary, in_storage, bits_of, emitted_alone, emitted_if_read, emitted_by, EmittedBits, is_emitted, says, number_text, statements_of, bits_of_length, emitted_behind, emitted_together, word_form, data-read}
use Rattle.std.proofs.lemmas.Bool.{and_parts as both}
use Rattle.st_asm.specs.Numbers.{holds, field_bits_of}
use Rattle.st_dis.proofs.Spelled.{whole_bits, half_bits, statements-cases}

-- bits with equal lengths and equal numbers are equal
same_bits : (a b : EmittedBits) → (a.length == b.length) ≡ true → (a.bits == b.bits) ≡ true → a ≡ b
same_bits a b lengths numbers =
    let l : a.length ≡ b.length = grind (arith, nat_tests) in
    let n : a.bits ≡ b.bits = grind (arith, nat_tests) in
    ap (λ k. bits_of_length k a.bits) l ∙ ap (λ k. bits_of_length b.length k) n

emitted-is : (wanted : EmittedBits) (o : Option EmittedBits) → is_emitted wanted o ≡ true → o ≡ Some wanted
emitted-is wanted None is = let no : ⊥ = cc in absurd no
emitted-is wanted (Some emitted) is =
    let parts = both (emitted.length == wanted.length) (emitted.bits == wanted.bits) is in
    ap (λ (l : EmittedBits). Some l) (same_bits emitted wanted parts.0 parts.1)

-- a text that was checked to assemble to bits assembles to them
pub says-emits : (text : List ℕ) (wanted : EmittedBits) → says text wanted ≡ true → emitted_alone [] text ≡ Some wanted
says-emits text wanted said =
    emitted-is wanted (emitted_alone [] text) (both (nat_le (length text) 63) (is_emitted wanted (emitted_alone [] text)) said).1

-- a number fits a word
number-fits : (n : ℕ) → n < 2 ^ 64 → holds word_form false n ≡ true
unfolding holds
number-fits n small = let below : nat_lt n (2 ^ 64) ≡ true = grind (arith, nat_tests) in below

number-faultless : (n : ℕ) → n < 2 ^ 64 →
    value_fault (Data word_form false n) (values_of [] (Data word_form false n)) naming_at_start.location ≡ None
unfolding value_fault in_range fits on_boundary in_storage values_of
number-faultless n small = rw (number-fits n small)

number-bits : (n : ℕ) → bits_of (Data word_form false n) (values_of [] (Data word_form false n)) ≡ n
unfolding bits_of field_bits_of
number-bits n = refl

number-emitted : (n : ℕ) → n < 2 ^ 64 → emitted_by [] (Data word_form false n) ≡ Some (whole_bits n)
unfolding emitted_by accepts_all
number-emitted n small =
    let s = Data word_form false n in
    ap (λ fault. if is_none fault then Some (bits_of_length 64 (bits_of s (values_of [] s))) else None) (number-faultless n small)
    ∙ ap (λ bits. Some (bits_of_length 64 bits)) (number-bits n)

-- the card of a number assembles to that number
pub data-emits : (n : ℕ) → n < 2 ^ 64 → emitted_alone [] (number_text n) ≡ Some (whole_bits n)
unfolding emitted_alone
data-emits n small = ap (λ r. emitted_if_read [] r) (data-read n small) ∙ number-emitted n small

-- one statement for a word, and two statements for its halves
one-emits : (word : ℕ) (t : List ℕ) → emitted_alone [] t ≡ Some (whole_bits word) → emitted_together (t ∷ []) ≡ Some (whole_bits word)
one-emits word t emits =
    let same : word * 2 ^ 0 + 0 ≡ word = omega arith in
    ap (λ o. emitted_behind o (Some (bits_of_length 0 0))) emits ∙ ap (λ n. Some (whole_bits n)) same

two-emit : (word : ℕ) (l r : List ℕ) → emitted_alone [] l ≡ Some (half_bits (word / 2 ^ 32)) →
    emitted_alone [] r ≡ Some (half_bits (word % 2 ^ 32)) → emitted_together (l ∷ r ∷ []) ≡ Some (whole_bits word)
two-emit word l r emits_l emits_r =
    let last = Some (bits_of_length 0 0) in
    let same : word / 2 ^ 32 * 2 ^ (32 + 0) + (word % 2 ^ 32 * 2 ^ 0 + 0) ≡ word = omega arith in
    ap (λ o. emitted_behind o (emitted_behind (emitted_alone [] r) last)) emits_l
    ∙ (ap (λ o. emitted_behind (Some (half_bits (word / 2 ^ 32))) (emitted_behind o last)) emits_r
    ∙ ap (λ n. Some (whole_bits n)) same)

-- the statements of a word assemble to the word
pub statements-emit : (word : ℕ) → word < 2 ^ 64 → emitted_together (statements_of word) ≡ Some (bits_of_length 64 word)
statements-emit word small =
    statements-cases (λ texts. emitted_together texts ≡ Some (whole_bits word)) word
    (λ t said. one-emits word t (says-emits t (whole_bits word) said))
    (λ l r said_l said_r. two-emit word l r (says-emits l (half_bits (word / 2 ^ 32)) said_l)
    (says-emits r (half_bits (word % 2 ^ 32)) said_r))
    (one-emits word (number_text word) (data-emits word small))
