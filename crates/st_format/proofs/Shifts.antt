-- The shifts of the code in arithmetic.
use Rattle.st_format.proofs.Common.{◌≡◌, ℕ, ◌+◌, ◌-◌, ◌*◌, ◌/◌, ◌%◌, ◌^◌, ◌≤◌, ◌∙◌, ap, arith}
use Rattle.st_bits.proofs.Shifts.{run_by_shifts}

-- n bits of a half-word that a left shift and a right shift extract
pub run_of_half : (x a n : ℕ) → a + n ≤ 32 → x * 2 ^ a % 2 ^ 32 / 2 ^ (32 - n) ≡ x / 2 ^ (32 - a - n) % 2 ^ n
run_of_half x a n h =
    let back : 32 - n ≡ a + (32 - a - n) = omega arith in
    let whole : 32 ≡ n + (a + (32 - a - n)) = omega arith in
    ap (λ m. x * 2 ^ a % 2 ^ m / 2 ^ (32 - n)) whole
    ∙ ap (λ m. x * 2 ^ a % 2 ^ (n + (a + (32 - a - n))) / 2 ^ m) back
    ∙ run_by_shifts x a n (32 - a - n)
