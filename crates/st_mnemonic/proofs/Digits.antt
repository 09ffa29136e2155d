-- Decimal digits are read as their number, and contain no separator of a statement.
use Rattle.st_mnemonic.proofs.Common.{◌≡◌, ◌≤◌, ◌<◌, ◌+◌, ◌-◌, ◌^◌, ◌==◌, ◌&&◌, ◌||◌, ℕ, suc, Bool, true, false, not, nat_le, List, [], ◌∷◌, if◌then◌else◌, length, take, filter, decimal, refl, ap, ◌∙◌, arith, rules, slice_get, option_map_or, list_all, nat_tests, take_all, pieces_of, onto_first, lacks}
use Rattle.std.proofs.lemmas.Bool.{and_parts as both, and_from as and_true, le-leb as within}
use Rattle.std.specs.Char.{is_ascii_digit}
use Rattle.std.proofs.lemmas.Str.Parse.{IsNumeralModel, numerals_by_fold}
use Rattle.std.proofs.lemmas.Fmt.{digits_decimal, digits_value-decimal, decimal_nonempty}
use Rattle.st_text.specs.Number.{is_filled, is_number, digits_value, value_after, reading}
use Rattle.st_text.specs.declared.numbers.Reading.TheVariants.{Bad, Large, Good}
use Rattle.st_mnemonic.specs.Text.{stop, begins_with, ends_with, statement_text}

own : IsNumeralModel (λ ds. list_all is_ascii_digit ds ≡ true) (value_after 0)
own = numerals_by_fold _ (search rules) value_after (search rules)

-- a text of one or more digits
pub record AreDigits (text : List ℕ) : Type 0 where
  pub each : list_all is_ascii_digit text ≡ true
  pub some : 0 < length text

pub decimal-digits : (n : ℕ) → n < 2 ^ 64 → AreDigits (decimal n)
decimal-digits n small = record { each = digits_decimal own n small; some = decimal_nonempty n small }

filled : (n : ℕ) → 0 < n → not (n == 0) ≡ true
filled n some = grind (arith, nat_tests)

read_good : (a b : Bool) (v : ℕ) → a ≡ true → b ≡ true → (if a then (if b then Good v else Large) else Bad) ≡ Good v
read_good true true v first second = refl
read_good true false v first second = cc
read_good false b v first second = cc

-- a number is read from its digits
pub reading-decimal : (most n : ℕ) → n ≤ most → n < 2 ^ 64 → reading most (decimal n) ≡ Good n
reading-decimal most n fits small =
    let ds = decimal-digits n small in
    let same : digits_value (decimal n) ≡ n = digits_value-decimal own n small in
    let some : is_filled (decimal n) ≡ true = filled (length (decimal n)) ds.some in
    let number : is_number (decimal n) ≡ true = ap (λ b. b && list_all is_ascii_digit (decimal n)) some ∙ ds.each in
    let room : nat_le (digits_value (decimal n)) most ≡ true = ap (λ v. nat_le v most) same ∙ within n most fits in
    read_good (is_number (decimal n)) (nat_le (digits_value (decimal n)) most) (digits_value (decimal n)) number room
    ∙ ap (λ v. Good v) same

-- bytes that pass one test pass another
pub all_pass : (p q : ℕ → Bool) → ((c : ℕ) → p c ≡ true → q c ≡ true) → (cs : List ℕ) → list_all p cs ≡ true → list_all q cs ≡ true
all_pass p q implies [] passes = refl
all_pass p q implies (c ∷ cs) passes =
    let tests = both (p c) (list_all p cs) passes in
    and_true (q c) (list_all q cs) (implies c tests.0) (all_pass p q implies cs tests.1)

-- bytes that are not digits
abbrev pub IsOther : ℕ → Type 0
IsOther at = (c : ℕ) → is_ascii_digit c ≡ true → not (c == at) ≡ true

pub low_other : (at : ℕ) → at < 48 → IsOther at
low_other at low c digit = grind (arith, nat_tests)

pub high_other : (at : ℕ) → 57 < at → IsOther at
high_other at high c digit = grind (arith, nat_tests)

pub digits-lack : (at : ℕ) (text : List ℕ) → IsOther at → AreDigits text → lacks at text ≡ true
digits-lack at text other ds = all_pass is_ascii_digit (λ c. not (c == at)) other text ds.each

pub unequal : (b : Bool) → not b ≡ true → b ≡ false
unequal true is = let no : ⊥ = cc in absurd no
unequal false is = refl

-- a text does not end with a byte that it lacks
pub lacks-ends : (at : ℕ) (text : List ℕ) → lacks at text ≡ true → ends_with at text ≡ false
lacks-ends at [] lack = refl
lacks-ends at (c ∷ []) lack = unequal (c == at) (both (not (c == at)) true lack).0
lacks-ends at (c ∷ d ∷ cs) lack = lacks-ends at (d ∷ cs) (both (not (c == at)) (lacks at (d ∷ cs)) lack).1

-- the last byte of a text, as the code finds it
pub ends_last : (at : ℕ) (text : List ℕ) → option_map_or (λ x. x == at) (slice_get text (length text - 1)) false ≡ ends_with at text
ends_last at [] = refl
ends_last at (c ∷ []) = refl
ends_last at (c ∷ d ∷ cs) =
    let last : length (c ∷ d ∷ cs) - 1 ≡ suc (length (d ∷ cs) - 1) = omega arith in
    ap (λ i. option_map_or (λ x. x == at) (slice_get (c ∷ d ∷ cs) i) false) last ∙ ends_last at (d ∷ cs)

pub lacks-begins : (at : ℕ) (text : List ℕ) → lacks at text ≡ true → begins_with at text ≡ false
lacks-begins at [] lack = refl
lacks-begins at (c ∷ cs) lack = unequal (c == at) (both (not (c == at)) (lacks at cs) lack).0

-- a text that lacks a byte is one piece
pub lacks-parted : (at : ℕ) (text : List ℕ) → lacks at text ≡ true → pieces_of at text ≡ text ∷ []
lacks-parted at [] lack = refl
lacks-parted at (c ∷ cs) lack =
    let tests = both (not (c == at)) (lacks at cs) lack in
    ap (λ b. if b then [] ∷ pieces_of at cs else onto_first c (pieces_of at cs)) (unequal (c == at) tests.0)
    ∙ ap (λ (ps : List (List ℕ)). onto_first c ps) (lacks-parted at cs tests.1)

stop-none : (at : ℕ) (text : List ℕ) → lacks at text ≡ true → stop at at text ≡ length text
stop-none at [] lack = refl
stop-none at (c ∷ cs) lack =
    let tests = both (not (c == at)) (lacks at cs) lack in
    ap (λ b. if b || b then 0 else stop at at cs + 1) (unequal (c == at) tests.0)
    ∙ (let rest = stop-none at cs tests.1 in omega (arith, rest))

filter-all : (p : ℕ → Bool) (text : List ℕ) → list_all p text ≡ true → filter p text ≡ text
filter-all p [] all = refl
filter-all p (c ∷ cs) all =
    let tests = both (p c) (list_all p cs) all in
    ap (λ b. if b then c ∷ filter p cs else filter p cs) tests.0 ∙ ap (λ (t : List ℕ). c ∷ t) (filter-all p cs tests.1)

-- a text without blanks and comment is its own statement text
pub clean-is : (text : List ℕ) → lacks 59 text ≡ true → lacks 32 text ≡ true → statement_text text ≡ text
unfolding statement_text
clean-is text no_comment no_blank =
    let whole : take (stop 59 59 text) text ≡ text =
    ap (λ n. take n text) (stop-none 59 text no_comment) ∙ take_all (length text) text (omega arith) in
    ap (λ (t : List ℕ). filter (λ c. not (c == 32)) t) whole ∙ filter-all (λ c. not (c == 32)) text no_blank
