-- A shift to the left that loses no bit.
use Rattle.st_report.proofs.Common.{◌≡◌, ℕ, ◌%◌, ◌+◌, ◌*◌, ◌^◌, ◌≤◌, ◌<◌, arith, lit<}
use Rattle.std.proofs.Math.Nat.{one-le-pow, mul-lt-mul_of_pos_right, pow-le-pow_right, mod-eq_of_lt}
use Rattle.std.proofs.lemmas.Nat.{pow-add}

-- a left shift of n bits by k places loses no bit of a word
pub shifted_whole : (a n k : ℕ) → a < 2 ^ n → n + k ≤ 64 → a * 2 ^ k % 2 ^ 64 ≡ a * 2 ^ k
shifted_whole a n k small room =
    let some : 0 < 2 ^ k = one-le-pow k 2 (lit< tt) in
    let up : a * 2 ^ k < 2 ^ n * 2 ^ k = mul-lt-mul_of_pos_right small some in
    let both : 2 ^ (n + k) ≡ 2 ^ n * 2 ^ k = pow-add 2 n k in
    let top : 2 ^ (n + k) ≤ 2 ^ 64 = pow-le-pow_right (lit< tt) room in
    let fits : a * 2 ^ k < 2 ^ 64 = omega arith in
    mod-eq_of_lt fits
