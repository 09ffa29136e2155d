-- Rules that are defined in two crates are the same.
use Rattle.st_laws.proofs.Common.{◌≡◌, ◌≤◌, ◌<◌, ◌+◌, ◌-◌, ◌*◌, ◌/◌, ◌%◌, ◌^◌, ◌==◌, ◌&&◌, ◌||◌, ℕ, zero, suc, Bool, true, false, nat_le, nat_lt, List, [], ◌∷◌, length, take, get_or, sum, decimal, None, if◌then◌else◌, refl, ap, sym, ◌∙◌, arith, rules, list_all, nat_tests, words_of_storage, words_of_storage_is, bytes, number_of_bytes, codes_value, value_of-first, joined-decimal, is_part, in_storage}
use Rattle.std.proofs.lemmas.Fmt.{length-decimal-le, digits_value-decimal}
use Rattle.std.proofs.lemmas.List.Sums.{prefix_len-le-length}
use Rattle.std.proofs.lemmas.Str.Parse.{IsNumeralModel, numerals_by_fold}
use Rattle.std.specs.Char.{is_ascii_digit}
use Rattle.st_bits.specs.Bits.{part}
use Rattle.st_bits.specs.Registers.{register_word}
use Rattle.st_field.specs.Digits.{value_of_digits, digits_of}
use Rattle.st_dec.specs.DigitLists.{decimal as digits}
use Rattle.st_conn.specs.Connective.{leading_zeros}
use Rattle.st_conn.specs.Connection.{counts_of}
use Rattle.st_text.specs.Number.{is_number, digits_value as text_value, value_after, number_if_good}
use Rattle.st_card.specs.Keywords.{card_number}
use Rattle.st_text.specs.declared.numbers.Reading.TheVariants.{Bad, Large, Good}
use Rattle.st_object.specs.Meaning.{short_number}

-- ---- digits

pub value-bytes : (n x : ℕ) → value_of_digits n x ≡ codes_value (bytes 4 n x)
unfolding value_of_digits codes_value bytes
value-bytes zero x = refl
value-bytes (suc n) x = value_of-first n x ∙ ap (λ v. x % 16 + 10 * v) (value-bytes n (x / 16))

pub digits-joined : (n v : ℕ) → digits_of n v ≡ number_of_bytes 4 (digits n v)
digits-joined n v = sym (joined-decimal n v)

-- ---- counts

zeros-part : (z o : ℕ) → z ≤ 64 → o ≤ 64 → part (z * 2 ^ 40 + o * 2 ^ 13) 17 7 ≡ z
zeros-part z o few some = omega arith

ones-part : (z o : ℕ) → z ≤ 64 → o ≤ 64 → part (z * 2 ^ 40 + o * 2 ^ 13) 44 7 ≡ o
ones-part z o few some = omega arith

pub zeros-counted : (bs : List ℕ) → length bs ≤ 64 → sum bs ≤ 64 → part (counts_of bs) 17 7 ≡ leading_zeros bs
zeros-counted bs few some =
    zeros-part (leading_zeros bs) (sum bs) (omega (arith, few, prefix_len-le-length (λ b. b == 0) bs)) some

pub ones-counted : (bs : List ℕ) → length bs ≤ 64 → sum bs ≤ 64 → part (counts_of bs) 44 7 ≡ sum bs
ones-counted bs few some =
    ones-part (leading_zeros bs) (sum bs) (omega (arith, few, prefix_len-le-length (λ b. b == 0) bs)) some

pub counts-kept : (bs : List ℕ) → length bs ≤ 64 → sum bs ≤ 64 → register_word 7 (counts_of bs) ≡ counts_of bs
unfolding register_word
counts-kept bs few some = rw (zeros-counted bs few some, ones-counted bs few some) refl

-- ---- the size of storage

one-below : (a b : ℕ) → nat_le a b ≡ nat_lt a (suc b)
one-below a b = grind (arith, nat_tests)

pub shown-in : (p : ℕ × ℕ) → is_part p ≡ (nat_le p.0 p.1 && nat_lt p.1 words_of_storage)
shown-in p =
    let same : nat_le p.1 98303 ≡ nat_lt p.1 98304 = one-below p.1 98303 in
    ap (λ b. nat_le p.0 p.1 && b) (same ∙ ap (λ n. nat_lt p.1 n) (sym words_of_storage_is))

pub emitted-in : (place bits : ℕ) → in_storage place bits
    ≡ (bits == 0 || (nat_le (64 * 32) place && nat_le (place + bits) (64 * words_of_storage)))
unfolding in_storage
emitted-in place bits = ap (λ n. bits == 0 || (nat_le 2048 place && nat_le (place + bits) (64 * n))) (sym words_of_storage_is)

-- ---- numbers

own : IsNumeralModel (λ ds. list_all is_ascii_digit ds ≡ true) (value_after 0)
own = numerals_by_fold _ (search rules) value_after (search rules)

past-most : (a b : Bool) (v : ℕ) → b ≡ false → number_if_good (if a then (if b then Good v else Large) else Bad) ≡ None
past-most true true v large = cc
past-most true false v large = refl
past-most false b v large = refl

past : (n : ℕ) → n < 2 ^ 64 → 12 < length (decimal n) → nat_le n 999999999999 ≡ false
past n small long =
    elim (nat_le n 999999999999) as (λ b. nat_le n 999999999999 ≡ b → b ≡ false) [
      | true ↦ λ test.
          let below : n < 10 ^ 12 = grind (arith, nat_tests) in
          let few = length-decimal-le 12 n (omega arith) below small in absurd (omega (arith, few, long))
      | false ↦ λ test. refl
    ] refl

-- a number with more digits than a card may have is also above the limit of an object text's line
long-none : (n : ℕ) → n < 2 ^ 64 → 12 < length (decimal n) → short_number (decimal n) ≡ None
long-none n small long =
    let same : text_value (decimal n) ≡ n = digits_value-decimal own n small in
    let large : nat_le (text_value (decimal n)) 999999999999 ≡ false = ap (λ v. nat_le v 999999999999) same ∙ past n small long in
    past-most (is_number (decimal n)) (nat_le (text_value (decimal n)) 999999999999) (text_value (decimal n)) large

pub spelled-agree : (n : ℕ) → n < 2 ^ 64 → card_number (decimal n) ≡ short_number (decimal n)
spelled-agree n small =
    elim (nat_lt 12 (length (decimal n))) as (λ b. nat_lt 12 (length (decimal n)) ≡ b →
    (if b then None else short_number (decimal n)) ≡ short_number (decimal n)) [
      | true ↦ λ test. sym (long-none n small (grind (arith, nat_tests)))
      | false ↦ λ test. refl
    ] refl
