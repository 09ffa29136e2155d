-- The line of an item is read as that item, and a line that is read as an item is its line.
use Rattle.st_object.proofs.Common.{◌≡◌, ◌<◌, ◌+◌, ◌*◌, ◌/◌, ◌%◌, ◌^◌, ◌==◌, ℕ, suc, zero, true, not, List, [], ◌∷◌, ◌++◌, Option, Some, None, if◌then◌else◌, nat_lt, false, ◌≤◌, length, decimal, refl, sym, ◌∙◌, ap, append_assoc, length-append, arith, rules, list_all, other_text, nat_tests, common_steps, eq-eqb, take_all, list_all-append, pieces_of, lacks, columns, option_map, option_and_then, keyword_text, card_number, control_in, IsShort, control_line, ObjectLine, Keyword, Control, line_text, parts_at, short_number, two_numbers, IsItem, hex_digit_in, hex_number, word_in, kind_of_word, item_behind, item_loosely, item_in, Item, Object, Start, Word, Ask, Fin, is-word, control_of}
use Rattle.std.specs.Char.{is_ascii_digit}
use Rattle.std.proofs.lemmas.Str.Parse.{IsNumeralModel, numerals_by_fold}
use Rattle.std.proofs.lemmas.Fmt.{digits_decimal, digits_value-decimal, decimal_nonempty, length-decimal-le}
use Rattle.std.proofs.Math.Nat.{mod-eq_of_lt, pow-succ', add-mul}
use Rattle.st_text.specs.Numerals.{hex_digit, hex_text, hex_word, half_address}
use Rattle.st_text.specs.Number.{is_filled, digits_value, value_after}
use Rattle.st_text.specs.Tables.{is_same}
use Rattle.st_card.specs.declared.keywords.Mark.{Mark}
use Rattle.st_card.specs.declared.keywords.Pair.{Pair}
use Rattle.st_object.proofs.Parts.{parts_around, parts_none}
use Rattle.st_card.specs.declared.keywords.Keyword.TheVariants as keywords
use Rattle.st_card.specs.declared.keywords.Control.TheVariants as asks
use Rattle.st_object.specs.declared.items.Kind.TheVariants as kinds

own : IsNumeralModel (λ ds. list_all is_ascii_digit ds ≡ true) (value_after 0)
own = numerals_by_fold _ (search rules) value_after (search rules)

pub short_small : (n : ℕ) → IsShort n → n < 2 ^ 64
short_small n short = omega arith

-- a number is read from its digits
pub short_number-decimal : (n : ℕ) → IsShort n → short_number (decimal n) ≡ Some n
short_number-decimal n short =
    let small = short_small n short in
    let digits : list_all is_ascii_digit (decimal n) ≡ true = digits_decimal own n small in
    let same : digits_value (decimal n) ≡ n = digits_value-decimal own n small in
    let some : 0 < length (decimal n) = decimal_nonempty n small in
    grind (arith, nat_tests)

-- a byte below the digits is not a digit
digit_not : (at c : ℕ) → at < 48 → is_ascii_digit c ≡ true → not (c == at) ≡ true
digit_not at c low digit = grind (arith, nat_tests)

lacks_digits : (at : ℕ) (cs : List ℕ) → at < 48 → list_all is_ascii_digit cs ≡ true → lacks at cs ≡ true
lacks_digits at [] low digits = refl
lacks_digits at (c ∷ cs) low digits = grind (arith, lacks_digits at cs, digit_not)

pub lacks-decimal : (at n : ℕ) → at < 48 → n < 2 ^ 64 → lacks at (decimal n) ≡ true
lacks-decimal at n low small = lacks_digits at (decimal n) low (digits_decimal own n small)

pub lacks-hex : (at k x : ℕ) → at < 48 → lacks at (hex_text k x) ≡ true
unfolding hex_text
lacks-hex at zero x low = refl
lacks-hex at (suc k) x low = grind (arith, nat_tests, lacks-hex at k (x / 16), list_all-append)

-- a hexadecimal digit is read from its character
digit_again : (d : ℕ) → d < 16 → hex_digit_in (hex_digit d) ≡ d
digit_again d fits = grind (arith, nat_tests)

-- the value of hexadecimal digits with one more digit
hex_number-last : (xs : List ℕ) (c : ℕ) → hex_number (xs ++ c ∷ []) ≡ hex_number xs * 16 + hex_digit_in c
hex_number-last [] c = omega arith
hex_number-last (x ∷ xs) c =
    let more : 16 ^ suc (length xs) ≡ 16 * 16 ^ length xs = pow-succ' 16 (length xs) in
    let one : length (xs ++ c ∷ []) ≡ suc (length xs) = omega (arith, length-append xs (c ∷ [])) in
    ap (λ n. hex_digit_in x * 16 ^ n + hex_number (xs ++ c ∷ [])) one
    ∙ ap (λ p. hex_digit_in x * p + hex_number (xs ++ c ∷ [])) more
    ∙ omega (arith, hex_number-last xs c)

-- a number is read from its hexadecimal digits
hex_number-hex_text : (k x : ℕ) → x < 16 ^ k → hex_number (hex_text k x) ≡ x
unfolding hex_text
hex_number-hex_text zero x room = let none : 16 ^ zero ≡ 1 = refl in omega (arith, none)
hex_number-hex_text (suc k) x room =
    let more : 16 ^ suc k ≡ 16 * 16 ^ k = pow-succ' 16 k in
    hex_number-last (hex_text k (x / 16)) (hex_digit (x % 16))
    ∙ omega (arith, hex_number-hex_text k (x / 16) (omega arith), digit_again (x % 16) (omega arith))

-- only the last fifteen digits before another one count
hex_step : (n d p h : ℕ) → ((n % 2 ^ 60 * 16 + d) * p + h) % 2 ^ 64 ≡ (n * (16 * p) + (d * p + h)) % 2 ^ 64
hex_step n d p h =
    let split : n * (16 * p) ≡ 2 ^ 64 * (n / 2 ^ 60 * p) + 16 * (n % 2 ^ 60 * p) =
    ap (λ m. m * (16 * p)) (omega arith) ∙ add-mul (2 ^ 60 * (n / 2 ^ 60)) (n % 2 ^ 60) (16 * p) ∙ omega arith in
    omega (arith, split)

-- the value so far, with the next digit of the text
pub digit_on : (text rest after : List ℕ) (n d c : ℕ) → rest ≡ c ∷ after → d ≡ hex_digit_in c
    → (n * 16 ^ length rest + hex_number rest) % 2 ^ 64 ≡ hex_number text % 2 ^ 64
    → ((n % 2 ^ 60 * 16 + d) * 16 ^ length after + hex_number after) % 2 ^ 64 ≡ hex_number text % 2 ^ 64
digit_on text rest after n d c parts is same =
    let more : 16 ^ suc (length after) ≡ 16 * 16 ^ length after = pow-succ' 16 (length after) in
    hex_step n d (16 ^ length after) (hex_number after)
    ∙ ap (λ p. (n * p + (d * 16 ^ length after + hex_number after)) % 2 ^ 64) (sym more)
    ∙ ap (λ k. (n * 16 ^ suc (length after) + (k * 16 ^ length after + hex_number after)) % 2 ^ 64) is
    ∙ ap (λ r. (n * 16 ^ length r + hex_number r) % 2 ^ 64) (sym parts)
    ∙ same

-- a text is the same as itself
is_same-refl : (s : List ℕ) → is_same s s ≡ true
is_same-refl s = grind (arith, other_text)

both_numbers : (at a b : ℕ) → at < 48 → IsShort a → IsShort b → two_numbers at (decimal a ++ at ∷ [] ++ decimal b) ≡ Some (a, b)
both_numbers at a b low short_a short_b = grind (arith, common_steps, parts_around, lacks-decimal, short_small, short_number-decimal)

word_again : (w x : ℕ) → IsShort w → x < 2 ^ 64 → word_in (decimal w ++ 32 ∷ [] ++ hex_word x) ≡ Some (Word w x)
word_again w x short small =
    let whole : hex_number (hex_word x) % 2 ^ 64 ≡ x = ap (λ n. n % 2 ^ 64) (hex_number-hex_text 16 x (omega arith)) ∙ mod-eq_of_lt small in grind (arith, common_steps, parts_around, lacks-decimal, short_small, short_number-decimal)

start_again : (h : ℕ) → IsShort (h / 2) → item_behind kinds.Start (half_address h) ≡ Some (Start h)
start_again h short =
    let same : 2 * (h / 2) + 32 * (h % 2) / 32 ≡ h = omega arith in
    rw (both_numbers 46 (h / 2) (32 * (h % 2)) (omega arith) short (omega arith), same)

-- a text without the separator is one piece
one_piece : (at : ℕ) (text : List ℕ) → lacks at text ≡ true → pieces_of at text ≡ text ∷ []
one_piece at [] lacking = refl
one_piece at (c ∷ cs) lacking = grind (arith, one_piece at cs)

-- a text is split at the first separator
pub parted_once : (at : ℕ) (text rest : List ℕ) → lacks at text ≡ true → pieces_of at (text ++ at ∷ rest) ≡ text ∷ pieces_of at rest
parted_once at [] rest lacking = rw (eq-eqb at at refl)
parted_once at (c ∷ cs) rest lacking = grind (arith, parted_once at cs)

decimal_length : (n : ℕ) → IsShort n → length (decimal n) ≤ 12
decimal_length n short = length-decimal-le 12 n (omega arith) (omega (arith, short)) (omega (arith, short))

decimal_filled : (n : ℕ) → IsShort n → is_filled (decimal n) ≡ true
decimal_filled n short = let some : 0 < length (decimal n) = decimal_nonempty n (short_small n short) in grind (arith, nat_tests)

number_read : (n : ℕ) → IsShort n → card_number (decimal n) ≡ Some n
number_read n short =
    let few = decimal_length n short in
    let fits : nat_lt 12 (length (decimal n)) ≡ false = grind (arith, nat_tests) in
    ap (λ b. if b then None else short_number (decimal n)) fits ∙ short_number-decimal n short

-- the number of a request is read from its line
one_read : (keyword : Keyword) (n : ℕ) (c : Control) → control_of keyword (n ∷ []) ≡ Some c → IsShort n → control_in keyword (decimal n) ≡ Some c
one_read keyword n c same short =
    let few = decimal_length n short in
    let whole : columns (decimal n) ≡ decimal n = take_all 72 (decimal n) (omega (arith, few)) in
    rw (whole, one_piece 32 (decimal n) (lacks-decimal 32 n (omega arith) (short_small n short)), decimal_filled n short, number_read n short) same

-- the two numbers of a request are read from its line
two_read : (pair : Pair) (a b : ℕ) → IsShort a → IsShort b → control_in (keywords.Pair pair) (decimal a ++ 32 ∷ [] ++ decimal b) ≡ Some (asks.Pair pair a b)
two_read pair a b short_a short_b =
    let text : List ℕ = decimal a ++ 32 ∷ decimal b in
    let same : decimal a ++ 32 ∷ [] ++ decimal b ≡ text = simp append_assoc refl in
    let few_a = decimal_length a short_a in
    let few_b = decimal_length b short_b in
    let size = length-append (decimal a) (32 ∷ decimal b) in
    let whole : columns text ≡ text = take_all 72 text (omega (arith, few_a, few_b, size)) in
    let cut : pieces_of 32 text ≡ decimal a ∷ decimal b ∷ [] =
    parted_once 32 (decimal a) (decimal b) (lacks-decimal 32 a (omega arith) (short_small a short_a))
    ∙ ap (λ (ps : List (List ℕ)). decimal a ∷ ps) (one_piece 32 (decimal b) (lacks-decimal 32 b (omega arith) (short_small b short_b))) in
    ap (λ t. control_in (keywords.Pair pair) t) same
    ∙ rw (whole, cut, decimal_filled a short_a, decimal_filled b short_b, number_read a short_a, number_read b short_b)

-- a keyword begins the line of its kind
word_kind : (keyword : Keyword) → kind_of_word (keyword_text ObjectLine keyword) ≡ Some (kinds.Ask keyword)
word_kind keyword = grind arith

-- the line of a request with numbers has its meaning
ask_again : (keyword : Keyword) (text line : List ℕ) (c : Control) → control_in keyword text ≡ Some c → line ≡ keyword_text ObjectLine keyword ++ 32 ∷ text →
    item_loosely (parts_at 32 line) line ≡ Some (Ask c)
ask_again keyword text line c read same =
    let front : List ℕ = keyword_text ObjectLine keyword in
    let cut : parts_at 32 line ≡ Some (front, text) = ap (λ l. parts_at 32 l) same ∙ parts_around 32 front text (is-word ObjectLine keyword).0 in
    ap (λ parts. item_loosely parts line) cut
    ∙ ap (λ kind. option_and_then (λ k. item_behind k text) kind) (word_kind keyword)
    ∙ ap (λ (o : Option Control). option_map (λ c. Ask c) o) read

-- the line of a request without numbers has its meaning
mark_again : (mark : Mark) → item_loosely (parts_at 32 (keyword_text ObjectLine (keywords.Mark mark))) (keyword_text ObjectLine (keywords.Mark mark)) ≡ Some (Ask (asks.Mark mark))
mark_again mark =
    let front : List ℕ = keyword_text ObjectLine (keywords.Mark mark) in
    ap (λ parts. item_loosely parts front) (parts_none 32 front (is-word ObjectLine (keywords.Mark mark)).0)
    ∙ ap (λ kind. option_and_then (λ k. item_behind k []) kind) (word_kind (keywords.Mark mark))

-- the line of a request with one number has its meaning
number_again : (keyword : Keyword) (n : ℕ) (c : Control) → control_of keyword (n ∷ []) ≡ Some c → IsShort n →
    let line = keyword_text ObjectLine keyword ++ 32 ∷ [] ++ decimal n in item_loosely (parts_at 32 line) line ≡ Some (Ask c)
number_again keyword n c same short =
    ask_again keyword (decimal n) _ c (one_read keyword n c same short) (append_assoc (keyword_text ObjectLine keyword) (32 ∷ []) (decimal n))

-- a line has the meaning of its item
loosely_again : (item : Item) → IsItem item → item_loosely (parts_at 32 (line_text item)) (line_text item) ≡ Some item
unfolding line_text control_line
loosely_again (Ask (asks.Mark mark)) short = mark_again mark
loosely_again (Ask (asks.Once once n)) short = number_again (keywords.Once once) n (asks.Once once n) refl short
loosely_again (Ask (asks.Number number n)) short = number_again (keywords.Number number) n (asks.Number number n) refl short
loosely_again (Ask (asks.Pair pair a b)) short =
    ask_again (keywords.Pair pair) (decimal a ++ 32 ∷ [] ++ decimal b)
    (keyword_text ObjectLine (keywords.Pair pair) ++ 32 ∷ [] ++ decimal a ++ 32 ∷ [] ++ decimal b) (asks.Pair pair a b) (two_read pair a b short.0 short.1)
    (simp append_assoc refl)
loosely_again Object short = refl
loosely_again (Start h) short = grind (arith, start_again)
loosely_again (Word w x) short = grind (arith, word_again)
loosely_again Fin short = refl

-- each line is read as the item that it spells
pub spelled_again : (item : Item) → IsItem item → item_in (line_text item) ≡ Some item
spelled_again item short = rw (loosely_again item short, is_same-refl (line_text item))
