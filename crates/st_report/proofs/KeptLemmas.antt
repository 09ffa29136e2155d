-- A number as its leading digits and its last two digits.
use Rattle.st_report.proofs.Common.{◌+◌, ◌*◌, ◌/◌, ◌%◌, ◌^◌, ◌<◌, ◌≤◌, ◌≡◌, ℕ, List, [], ◌∷◌, ◌++◌, get_or, drop, length, refl, sym, ap, ◌∙◌, append_assoc, decimal, arith, decimal_digit, decimal_step}
use Rattle.st_report.specs.Line.{two_digits}
use Rattle.st_report.specs.declared.kept.TheConstants.{PAIRS}
use Rattle.st_report.proofs.PairTables.{pair-at}

two_digits-are : (p : ℕ) → p < 100 → two_digits p ≡ (48 + p / 10) ∷ (48 + p % 10) ∷ []
two_digits-are p few = rw (decimal_digit (p / 10) (omega arith), decimal_digit (p % 10) (omega arith)) refl

pub pair-text : (p : ℕ) → p < 100 → get_or PAIRS (p * 2) 0 ∷ get_or PAIRS (p * 2 + 1) 0 ∷ [] ≡ two_digits p
pair-text p few = let digits = pair-at (λ d. 48 + d) 10 PAIRS 100 p refl few in rw (two_digits-are p few, digits.0, digits.1) refl

-- the two digits of a number below 10 without the leading zero
pub one-digit : (n : ℕ) → n < 10 → drop 1 (two_digits n) ≡ decimal n
one-digit n few =
    let same : n % 10 ≡ n = omega arith in
    ap (λ (xs : List ℕ). drop 1 xs) (two_digits-are n (omega arith)) ∙ ap (λ (d : ℕ). (48 + d) ∷ []) same ∙ sym (decimal_digit n few)

pub two-digit : (n : ℕ) → 10 ≤ n → n < 100 → two_digits n ≡ decimal n
two-digit n some few = ap (λ (xs : List ℕ). decimal (n / 10) ++ xs) (decimal_digit (n % 10) (omega arith)) ∙ sym (decimal_step n some (omega arith))

pub two-long : (n : ℕ) → n < 100 → length (two_digits n) ≡ 2
two-long n few = ap (λ (xs : List ℕ). length xs) (two_digits-are n few)

decimal-pair : (n m p : ℕ) → 1 ≤ m → p < 100 → n ≡ 100 * m + p → n < 2 ^ 64 → decimal n ≡ decimal m ++ two_digits p
decimal-pair n m p some few is small =
    let front : n / 10 / 10 ≡ m = omega arith in
    let tens : n / 10 % 10 ≡ p / 10 = omega arith in
    let ones : n % 10 ≡ p % 10 = omega arith in
    rw (decimal_step n (omega arith) small, decimal_step (n / 10) (omega arith) (omega arith), append_assoc, two_digits-are p few, front, tens, ones) refl

-- a number put before a line in two pieces
pub near-pieces : (n m p : ℕ) (pair front l0 l1 l2 : List ℕ) → 1 ≤ m → p < 100 → n ≡ 100 * m + p → n < 2 ^ 64
    → pair ≡ two_digits p → front ≡ decimal m → l1 ≡ pair ++ l0 → l2 ≡ front ++ l1 → l2 ≡ decimal n ++ l0
near-pieces n m p pair front l0 l1 l2 some few is small two kept e1 e2 =
    e2 ∙ ap (λ xs. front ++ xs) e1 ∙ ap (λ xs. front ++ (xs ++ l0)) two ∙ ap (λ xs. xs ++ (two_digits p ++ l0)) kept
    ∙ sym (append_assoc (decimal m) (two_digits p) l0) ∙ ap (λ xs. xs ++ l0) (sym (decimal-pair n m p some few is small))
