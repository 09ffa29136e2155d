-- Bounds on the lengths of a deck and of its cards.
use Rattle.st_dis.proofs.Common.{◌≤◌, ◌<◌, ◌+◌, ◌*◌, ◌/◌, ◌%◌, ◌^◌, ◌==◌, ◌++◌, ℕ, true, false, List, [], ◌∷◌, length, map, codes, decimal, if◌then◌else◌, length-append, arith, All, All-nil, All-cons, All-head, All-tail, All-append, leb-true, length-decimal-le, lf, half_address, words_of_storage_is, Asked, IsWithinLimits, keyword_text, control_line, requests, IsShortControl, text_of_lines, Keyword, Control, Card, is-word, requests-short, Program, IsProgram, AreWords, number_text, statements_of, statement_card, location_statement, location_cards, cards_of_word, word_cards, end_text, control_cards, deck_cards, deck_text, card_count}
use Rattle.st_card.specs.Written.{IsShort as IsShortNumber}
use Rattle.st_dis.proofs.Spelled.{statements-cases, says-short, whole_bits, half_bits}
use Rattle.st_card.specs.declared.keywords.Keyword.TheVariants as keywords
use Rattle.st_card.specs.declared.keywords.Control.TheVariants as asks

-- a statement has at most 63 characters, and a card at most 72
abbrev pub IsShort : List ℕ → Type 0
IsShort text = length text ≤ 63

abbrev pub IsCard : List ℕ → Type 0
IsCard card = length card ≤ 72

-- the length of the text of cards, each with its line end
pub text_of_lines-length : (cards : List (List ℕ)) → All IsCard cards → length (text_of_lines cards) ≤ 73 * length cards
text_of_lines-length [] short = omega arith
text_of_lines-length (card ∷ cards) short =
    let here : length card ≤ 72 = All-head IsCard card cards short in
    let rest = text_of_lines-length cards (All-tail IsCard card cards short) in
    let one = length-append (card ++ lf) (text_of_lines cards) in
    let end = length-append card lf in
    omega (arith, here, rest, one, end)

-- a number has at most 20 digits
digits : (n : ℕ) → n < 2 ^ 64 → length (decimal n) ≤ 20
digits n small = length-decimal-le 20 n (omega arith) (omega arith) small

pub statement_card-short : (text : List ℕ) → IsShort text → IsCard (statement_card text)
statement_card-short text short =
    let parts = length-append (32 ∷ 32 ∷ 32 ∷ 32 ∷ 32 ∷ 32 ∷ 32 ∷ 32 ∷ 32 ∷ []) text in omega (arith, short, parts)

-- the length of a word followed by a number
labelled : (word : List ℕ) (n : ℕ) → length word ≤ 43 → n < 2 ^ 64 → length (word ++ decimal n) ≤ 63
labelled word n few small =
    let parts = length-append word (decimal n) in
    let number = digits n small in
    omega (arith, few, parts, number)

-- the length of a word followed by two numbers
paired : (word : List ℕ) (a b : ℕ) → length word ≤ 20 → a < 2 ^ 64 → b < 2 ^ 64 →
    length (word ++ decimal a ++ codes " " ++ decimal b) ≤ 63
paired word a b few small_a small_b =
    let front = length-append word (decimal a) in
    let between = length-append (word ++ decimal a) (codes " ") in
    let whole = length-append (word ++ decimal a ++ codes " ") (decimal b) in
    let first = digits a small_a in
    let second = digits b small_b in
    omega (arith, few, front, between, whole, first, second)

statements-short : (word : ℕ) → word < 2 ^ 64 → All IsShort (statements_of word)
statements-short word small =
    statements-cases (λ texts. All IsShort texts) word
    (λ t said. All-cons IsShort t [] (says-short t (whole_bits word) said) (All-nil IsShort))
    (λ l r said_l said_r. All-cons IsShort l (r ∷ []) (says-short l (half_bits (word / 2 ^ 32)) said_l)
    (All-cons IsShort r [] (says-short r (half_bits (word % 2 ^ 32)) said_r) (All-nil IsShort)))
    (All-cons IsShort (number_text word) [] (labelled (codes "DD(BU,64),") word (omega arith) small) (All-nil IsShort))

pub all_statement_cards : (texts : List (List ℕ)) → All IsShort texts → All IsCard (map statement_card texts)
all_statement_cards [] short = All-nil IsCard
all_statement_cards (t ∷ ts) short =
    All-cons IsCard (statement_card t) (map statement_card ts) (statement_card-short t (All-head IsShort t ts short))
    (all_statement_cards ts (All-tail IsShort t ts short))

location_text-short : (w : ℕ) → w < 2 ^ 64 → IsShort (location_statement w)
location_text-short w small =
    let whole = length-append (codes "SLC,") (decimal w ++ codes ".0") in
    let behind = length-append (decimal w) (codes ".0") in
    let number = digits w small in
    omega (arith, whole, behind, number)

location_cards-short : (w before : ℕ) → w < 2 ^ 64 → All IsCard (location_cards w before)
location_cards-short w before small =
    let card : IsCard (statement_card (location_statement w)) = statement_card-short (location_statement w) (location_text-short w small) in
    elim (before == 0) as (λ b. All IsCard (if b then statement_card (location_statement w) ∷ [] else [])) [
      | true ↦ All-cons IsCard (statement_card (location_statement w)) [] card (All-nil IsCard)
      | false ↦ All-nil IsCard
    ]

placed-short : (w before x : ℕ) → w < 2 ^ 64 → x < 2 ^ 64 → All IsCard (cards_of_word w before x)
unfolding cards_of_word
placed-short w before x small word =
    let filled : All IsCard (location_cards w before ++ map statement_card (statements_of x)) =
    All-append IsCard (location_cards w before) (map statement_card (statements_of x)) (location_cards-short w before small)
    (all_statement_cards (statements_of x) (statements-short x word)) in
    elim (x == 0) as (λ b. All IsCard (if b then [] else location_cards w before ++ map statement_card (statements_of x))) [
      | true ↦ All-nil IsCard
      | false ↦ filled
    ]

word_cards-short : (w before : ℕ) (xs : List ℕ) → w + length xs < 2 ^ 64 → AreWords xs → All IsCard (word_cards w before xs)
word_cards-short w before [] few words = All-nil IsCard
word_cards-short w before (x ∷ xs) few words =
    All-append IsCard (cards_of_word w before x) (word_cards (w + 1) x xs)
    (placed-short w before x (omega arith) (All-head (λ y. y < 2 ^ 64) x xs words))
    (word_cards-short (w + 1) x xs (omega arith) (All-tail (λ y. y < 2 ^ 64) x xs words))

pub end_text-short : (start : ℕ) → start < 2 ^ 19 → IsShort (end_text start)
end_text-short start small =
    let whole = length-append (codes "END,") (half_address start) in
    let front = length-append (decimal (start / 2)) (codes ".") in
    let middle = length-append (decimal (start / 2) ++ codes ".") (decimal (32 * (start % 2))) in
    let first = digits (start / 2) (omega arith) in
    let second = digits (32 * (start % 2)) (omega arith) in
    omega (arith, whole, front, middle, first, second)

labelled_card : (word : List ℕ) (n : ℕ) → length word ≤ 43 → n < 2 ^ 64 → IsCard (word ++ decimal n)
labelled_card word n few small = let short = labelled word n few small in omega (arith, short)

paired_card : (word : List ℕ) (a b : ℕ) → length word ≤ 20 → a < 2 ^ 64 → b < 2 ^ 64 →
    IsCard (word ++ decimal a ++ codes " " ++ decimal b)
paired_card word a b few small_a small_b = let short = paired word a b few small_a small_b in omega (arith, short)

word-short : (keyword : Keyword) → length (keyword_text Card keyword) ≤ 8
word-short keyword = leb-true (length (keyword_text Card keyword)) 8 (is-word Card keyword).2

-- the length of a control card with one number
number-short : (keyword : Keyword) (n : ℕ) → IsShortNumber n → IsCard (keyword_text Card keyword ++ codes " " ++ decimal n)
number-short keyword n short =
    let word = keyword_text Card keyword in
    let few = word-short keyword in
    let size = length-append word (codes " ") in
    labelled_card (word ++ codes " ") n (omega (arith, few, size)) (omega (arith, short))

-- the length of a control card
card-short : (c : Control) → IsShortControl c → IsCard (control_line Card c)
unfolding control_line
card-short (asks.Mark mark) short = let few = word-short (keywords.Mark mark) in omega (arith, few)
card-short (asks.Once once n) short = number-short (keywords.Once once) n short
card-short (asks.Number number n) short = number-short (keywords.Number number) n short
card-short (asks.Pair pair a b) short =
    let word = keyword_text Card (keywords.Pair pair) in
    let few = word-short (keywords.Pair pair) in
    let size = length-append word (codes " ") in
    paired_card (word ++ codes " ") a b (omega (arith, few, size)) (omega (arith, short.0)) (omega (arith, short.1))

pub control_cards-short : (a : Asked) → IsWithinLimits a → All IsCard (control_cards a)
control_cards-short a limits = mapped (requests a) (requests-short a limits)
  where
    mapped : (cs : List Control) → All IsShortControl cs → All IsCard (map (control_line Card) cs)
    mapped [] short = All-nil IsCard
    mapped (c ∷ cs) short =
        All-cons IsCard (control_line Card c) (map (control_line Card) cs) (card-short c (All-head IsShortControl c cs short)) (mapped cs (All-tail IsShortControl c cs short))

-- each card of a deck has at most 72 characters
pub deck_cards-short : (p : Program) → IsProgram p → AreWords p.words → All IsCard (deck_cards p)
deck_cards-short p is words =
    let whole = is.image.size in
    let few : 0 + length p.words < 2 ^ 64 = omega (arith, whole, words_of_storage_is) in
    let end = All-cons IsCard (statement_card (end_text p.start)) []
    (statement_card-short (end_text p.start) (end_text-short p.start is.start)) (All-nil IsCard) in
    let program = All-append IsCard (word_cards 0 0 p.words) _ (word_cards-short 0 0 p.words few words) end in
    All-append IsCard _ (control_cards p.controls) program (control_cards-short p.controls is.limits)

-- a deck that is not too long has at most 2,000,000 bytes
pub deck_text-short : (p : Program) → IsProgram p → AreWords p.words → card_count p ≤ 20000 → length (deck_text p) ≤ 2000000
unfolding deck_text card_count
deck_text-short p is words few =
    let long = text_of_lines-length (deck_cards p) (deck_cards-short p is words) in
    omega (arith, few, long)
