-- The cards that set the location counter and that end the program are read with their operands.
use Rattle.st_dis.proofs.Common.{◌≡◌, ◌<◌, ◌+◌, ◌*◌, ◌/◌, ◌%◌, ◌^◌, ℕ, List, [], ◌∷◌, ◌++◌, codes, decimal, Ok, refl, ap, sym, ◌∙◌, append_assoc, arith, decimal_digit, number_expr, statement_of, SetLocation, End, set-read, end-read, location_statement, end_text}

pub location-read : (w : ℕ) → w < 98304 → statement_of [] (location_statement w) ≡ Ok (SetLocation (number_expr (64 * w)))
location-read w small =
    let zero : decimal 0 ≡ 48 ∷ [] = decimal_digit 0 (omega arith) in
    let digit : location_statement w ≡ codes "SLC," ++ decimal w ++ codes "." ++ 48 ∷ [] = simp append_assoc refl in
    let same : location_statement w ≡ codes "SLC," ++ decimal w ++ codes "." ++ decimal 0 =
    digit ∙ ap (λ (z : List ℕ). codes "SLC," ++ decimal w ++ codes "." ++ z) (sym zero) in
    let value : 64 * w + 0 ≡ 64 * w = omega arith in
    ap (λ (t : List ℕ). statement_of [] t) same
    ∙ (set-read w 0 (omega arith) (omega arith) ∙ ap (λ n. Ok (SetLocation (number_expr n))) value)

pub start-read : (start : ℕ) → start < 2 ^ 19 → statement_of [] (end_text start) ≡ Ok (End (number_expr (32 * start)))
start-read start small =
    let w = start / 2 in
    let b = 32 * (start % 2) in
    let same : end_text start ≡ codes "END," ++ decimal w ++ codes "." ++ decimal b = simp append_assoc refl in
    let value : 64 * (start / 2) + 32 * (start % 2) ≡ 32 * start = omega arith in
    ap (λ (t : List ℕ). statement_of [] t) same
    ∙ (end-read w b (omega arith) (omega arith) ∙ ap (λ n. Ok (End (number_expr n))) value)
