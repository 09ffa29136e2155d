-- Lemmas on hexadecimal digits, eight at a time.
use Rattle.st_lines.proofs.Common.{◌+◌, ◌*◌, ◌%◌, ◌∷◌, get_or, ◌≡◌, ℕ, ◌/◌, ◌^◌, List, [], ◌++◌, refl, ◌∙◌, ap, sym, append_assoc, arith, append-nil, hex_digit, hex_text, hex_word}
use Rattle.st_report.proofs.PairTables.{pair-at}
use Rattle.st_lines.specs.declared.digits.TheConstants.{PAIRS}

pub hex-halves : (x : ℕ) → hex_text 8 (x / 2 ^ 32) ++ hex_text 8 x ≡ hex_word x
unfolding hex_text
hex-halves x =
    let same : x / 2 ^ 32 ≡ x / 16 / 16 / 16 / 16 / 16 / 16 / 16 / 16 = omega arith in rw same refl

-- two pieces of eight digits in front of a line
pub word_pieces : (x y : ℕ) (old mid new : List ℕ) → y ≡ x / 2 ^ 32 → mid ≡ hex_text 8 x ++ old → new ≡ hex_text 8 y ++ mid
    → new ≡ hex_word x ++ old
word_pieces x y old mid new half one two =
    two
    ∙ ap (λ xs. hex_text 8 y ++ xs) one
    ∙ sym (append_assoc (hex_text 8 y) (hex_text 8 x) old)
    ∙ ap (λ (h : ℕ). (hex_text 8 h ++ hex_text 8 x) ++ old) half
    ∙ ap (λ xs. xs ++ old) (hex-halves x)

-- a line of three pieces, the last one first
pub three_pieces : (a b c l0 l1 l2 l3 : List ℕ) → l0 ≡ [] → l1 ≡ c ++ l0 → l2 ≡ b ++ l1 → l3 ≡ a ++ l2 → l3 ≡ a ++ b ++ c
three_pieces a b c l0 l1 l2 l3 e0 e1 e2 e3 = rw (e3, e2, e1, e0) (simp (append_assoc, append-nil) refl)

-- a line of four pieces, the last one first
pub four_pieces : (a b c d l0 l1 l2 l3 l4 : List ℕ) → l0 ≡ [] → l1 ≡ d ++ l0 → l2 ≡ c ++ l1 → l3 ≡ b ++ l2 → l4 ≡ a ++ l3
    → l4 ≡ a ++ b ++ c ++ d
four_pieces a b c d l0 l1 l2 l3 l4 e0 e1 e2 e3 e4 = rw (e4, e3, e2, e1, e0) (simp (append_assoc, append-nil) refl)

-- ---- two digits at a time

pub pair-text : (n : ℕ) → get_or PAIRS (n % 256 * 2) 0 ∷ get_or PAIRS (n % 256 * 2 + 1) 0 ∷ [] ≡ hex_text 2 n
unfolding hex_text
pair-text n =
    let p = pair-at hex_digit 16 PAIRS 256 (n % 256) refl (omega arith) in
    let high : n % 256 / 16 ≡ n / 16 % 16 = omega arith in
    let low : n % 256 % 16 ≡ n % 16 = omega arith in
    rw (p.0, p.1, high, low) refl

eight-digits : (n : ℕ) (old : List ℕ)
    → hex_text 2 (n / 16777216) ++ (hex_text 2 (n / 65536) ++ (hex_text 2 (n / 256) ++ (hex_text 2 n ++ old))) ≡ hex_text 8 n ++ old
unfolding hex_text
eight-digits n old =
    let one : n / 256 ≡ n / 16 / 16 = omega arith in
    let two : n / 65536 ≡ n / 16 / 16 / 16 / 16 = omega arith in
    let three : n / 16777216 ≡ n / 16 / 16 / 16 / 16 / 16 / 16 = omega arith in
    rw (three, two, one) refl

pub digit_pieces : (n x y z : ℕ) (p q r t old l1 l2 l3 l4 : List ℕ) → x ≡ n / 256 → y ≡ n / 65536 → z ≡ n / 16777216 → p ≡ hex_text 2 n
    → q ≡ hex_text 2 x → r ≡ hex_text 2 y → t ≡ hex_text 2 z → l1 ≡ p ++ old → l2 ≡ q ++ l1 → l3 ≡ r ++ l2 → l4 ≡ t ++ l3 → l4 ≡ hex_text 8 n ++ old
digit_pieces n x y z p q r t old l1 l2 l3 l4 ex ey ez ep eq er et e1 e2 e3 e4 =
    rw (e4, e3, e2, e1, et, er, eq, ep, ez, ey, ex) (eight-digits n old)
