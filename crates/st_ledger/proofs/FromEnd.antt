-- Lemmas on lines that are built from their end, piece by piece.
use Rattle.st_ledger.proofs.Common.{◌≡◌, ℕ, ◌+◌, ◌/◌, ◌%◌, ◌*◌, ◌^◌, ◌<◌, ◌≤◌, List, [], ◌++◌, length, codes, decimal, refl, append_assoc, arith, length-decimal-le, append-nil, half_address}
use Rattle.std.proofs.lemmas.List.{length-append}

-- a line of five pieces, the last one first
pub five_pieces : (a b c d e l0 l1 l2 l3 l4 l5 : List ℕ) → l0 ≡ [] → l1 ≡ e ++ l0 → l2 ≡ d ++ l1 → l3 ≡ c ++ l2 → l4 ≡ b ++ l3 → l5 ≡ a ++ l4
    → l5 ≡ a ++ b ++ c ++ d ++ e
five_pieces a b c d e l0 l1 l2 l3 l4 l5 e0 e1 e2 e3 e4 e5 = rw (e5, e4, e3, e2, e1, e0) (simp (append_assoc, append-nil) refl)

-- a line of seven pieces, the last one first
pub seven_pieces : (a b c d e f g l0 l1 l2 l3 l4 l5 l6 l7 : List ℕ)
    → l0 ≡ [] → l1 ≡ g ++ l0 → l2 ≡ f ++ l1 → l3 ≡ e ++ l2 → l4 ≡ d ++ l3 → l5 ≡ c ++ l4 → l6 ≡ b ++ l5 → l7 ≡ a ++ l6
    → l7 ≡ a ++ b ++ c ++ d ++ e ++ f ++ g
seven_pieces a b c d e f g l0 l1 l2 l3 l4 l5 l6 l7 e0 e1 e2 e3 e4 e5 e6 e7 =
    rw (e7, e6, e5, e4, e3, e2, e1, e0) (simp (append_assoc, append-nil) refl)

-- a line of thirteen pieces, the last one first
pub thirteen_pieces : (a b c d e f g h i j k m n l0 l1 l2 l3 l4 l5 l6 l7 l8 l9 l10 l11 l12 l13 : List ℕ)
    → l0 ≡ [] → l1 ≡ n ++ l0 → l2 ≡ m ++ l1 → l3 ≡ k ++ l2 → l4 ≡ j ++ l3 → l5 ≡ i ++ l4 → l6 ≡ h ++ l5
    → l7 ≡ g ++ l6 → l8 ≡ f ++ l7 → l9 ≡ e ++ l8 → l10 ≡ d ++ l9 → l11 ≡ c ++ l10 → l12 ≡ b ++ l11 → l13 ≡ a ++ l12
    → l13 ≡ a ++ b ++ c ++ d ++ e ++ f ++ g ++ h ++ i ++ j ++ k ++ m ++ n
thirteen_pieces a b c d e f g h i j k m n l0 l1 l2 l3 l4 l5 l6 l7 l8 l9 l10 l11 l12 l13 e0 e1 e2 e3 e4 e5 e6 e7 e8 e9 e10 e11 e12 e13 =
    rw (e13, e12, e11, e10, e9, e8, e7, e6, e5, e4, e3, e2, e1, e0) (simp (append_assoc, append-nil) refl)

-- ---- the lengths of pieces

pub short_half : (a : ℕ) → a < 2 ^ 32 → length (half_address a) ≤ 13
short_half a few =
    let word : length (decimal (a / 2)) ≤ 10 = length-decimal-le 10 (a / 2) (omega arith) (omega (arith, few)) (omega (arith, few)) in
    let bit : length (decimal (32 * (a % 2))) ≤ 2 = length-decimal-le 2 (32 * (a % 2)) (omega arith) (omega arith) (omega arith) in
    let before : length (decimal (a / 2) ++ codes ".") ≡ length (decimal (a / 2)) + 1 = length-append (decimal (a / 2)) (codes ".") in
    let all : length (half_address a) ≡ length (decimal (a / 2) ++ codes ".") + length (decimal (32 * (a % 2))) =
    length-append (decimal (a / 2) ++ codes ".") (decimal (32 * (a % 2))) in
    omega (arith, word, bit, all, before)
