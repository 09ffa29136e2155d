-- Lemmas on the bits of a word's statements.
use Rattle.st_dis.proofs.Common.{◌≡◌, ◌≤◌, ◌+◌, ◌*◌, ◌/◌, ◌%◌, ◌^◌, ◌&&◌, ℕ, Bool, true, false, nat_le, List, [], ◌∷◌, length, Option, Some, None, if◌then◌else◌, refl, ap, sym, ◌∙◌, arith, nat_tests, is_full, instruction_of, is_valid, Instr, emitted_alone, EmittedBits, instruction_text, is_emitted, says, spelling_of, word_spelling, half_spelling, number_text, statements_by, statements_of}
use Rattle.std.proofs.lemmas.Bool.{and_parts as both}

-- a word as 64 bits
abbrev pub whole_bits : ℕ → EmittedBits
whole_bits word = record { length = 64; bits = word }

abbrev pub half_bits : ℕ → EmittedBits
half_bits half = record { length = 32; bits = half }

-- a conditional result is present only if its test is true
given : (b : Bool) (x y : List ℕ) → (if b then Some x else None) ≡ Some y → (b ≡ true) × (x ≡ y)
given true x y same = (refl, cc)
given false x y same = let no : ⊥ = cc in absurd no

-- a spelling assembles to the required bits
spelling-says : (instr : Instr) (wanted : EmittedBits) (text : List ℕ) → spelling_of instr wanted ≡ Some text → says text wanted ≡ true
unfolding spelling_of
spelling-says instr wanted text same =
    let parts = given (is_valid instr && says (instruction_text instr) wanted) (instruction_text instr) text same in
    let said = (both (is_valid instr) (says (instruction_text instr) wanted) parts.0).1 in
    ap (λ (t : List ℕ). says t wanted) (sym parts.1) ∙ said

-- a result that is present only if a test is true
only : (b : Bool) (o : Option (List ℕ)) (y : List ℕ) → (if b then o else None) ≡ Some y → o ≡ Some y
only true o y same = same
only false o y same = let no : ⊥ = cc in absurd no

only_not : (b : Bool) (o : Option (List ℕ)) (y : List ℕ) → (if b then None else o) ≡ Some y → o ≡ Some y
only_not true o y same = let no : ⊥ = cc in absurd no
only_not false o y same = same

word_spelling-says : (left right : ℕ) (text : List ℕ) → word_spelling left right ≡ Some text →
    says text (whole_bits (left * 2 ^ 32 + right)) ≡ true
word_spelling-says left right text same =
    let wanted = whole_bits (left * 2 ^ 32 + right) in
    spelling-says (instruction_of left right) wanted text
    (only (is_full left) (spelling_of (instruction_of left right) wanted) text same)

half_spelling-says : (half : ℕ) (text : List ℕ) → half_spelling half ≡ Some text → says text (half_bits half) ≡ true
half_spelling-says half text same =
    spelling-says (instruction_of half 0) (half_bits half) text
    (only_not (is_full half) (spelling_of (instruction_of half 0) (half_bits half)) text same)

-- a property of the statements of a word, by the spellings that are present
by_cases : (P : List (List ℕ) → Type 0) (word : ℕ) (whole left right : Option (List ℕ)) →
    ((t : List ℕ) → whole ≡ Some t → P (t ∷ [])) →
    ((l r : List ℕ) → left ≡ Some l → right ≡ Some r → P (l ∷ r ∷ [])) →
    P (number_text word ∷ []) → P (statements_by word whole left right)
by_cases P word (Some t) left right one two number = one t refl
by_cases P word None (Some l) (Some r) one two number = two l r refl refl
by_cases P word None (Some l) None one two number = number
by_cases P word None None right one two number = number

-- a property of the statements of a word: it suffices that it holds of one statement for the word,
-- of two for its halves, and of the number
pub statements-cases : (P : List (List ℕ) → Type 0) (word : ℕ) →
    ((t : List ℕ) → says t (whole_bits word) ≡ true → P (t ∷ [])) →
    ((l r : List ℕ) → says l (half_bits (word / 2 ^ 32)) ≡ true → says r (half_bits (word % 2 ^ 32)) ≡ true → P (l ∷ r ∷ [])) →
    P (number_text word ∷ []) → P (statements_of word)
unfolding statements_of
statements-cases P word one two number =
    let left = word / 2 ^ 32 in
    let right = word % 2 ^ 32 in
    let same : left * 2 ^ 32 + right ≡ word = omega arith in
    by_cases P word (word_spelling left right) (half_spelling left) (half_spelling right)
    (λ t is. one t (ap (λ n. says t (whole_bits n)) (sym same) ∙ word_spelling-says left right t is))
    (λ l r is_l is_r. two l r (half_spelling-says left l is_l) (half_spelling-says right r is_r))
    number

-- a text that assembles to bits has at most 63 characters
pub says-short : (text : List ℕ) (wanted : EmittedBits) → says text wanted ≡ true → length text ≤ 63
says-short text wanted said =
    let short = (both (nat_le (length text) 63) (is_emitted wanted (emitted_alone [] text)) said).0 in
    grind (arith, nat_tests, short)
