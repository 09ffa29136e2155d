-- The text without its trailing blanks, by the place where they begin.
use Rattle.st_text.proofs.Common.{◌≡◌, ◌≢◌, ◌≤◌, ◌<◌, ◌-◌, ◌==◌, ℕ, List, length, take, slice_index, arith, suffix_len, without_end_blanks}
use Rattle.std.proofs.lemmas.Grind.{common_steps}
use Rattle.std.proofs.lemmas.List.Sums.{suffix_len_is}

-- all bytes from n are blanks, and the one before n is not
pub take-filled : (text : List ℕ) (n : ℕ) → n ≤ length text
    → ((k : ℕ) → n ≤ k → k < length text → slice_index text k ≡ 32)
    → (0 < n → slice_index text (n - 1) ≢ 32)
    → take n text ≡ without_end_blanks text
take-filled text n within after before =
    let last : suffix_len (λ c. c == 32) text ≡ length text - n =
    suffix_len_is (λ c. c == 32) text n 0 within
    (λ k low high. grind (arith, common_steps, after k low high))
    (λ some. grind (arith, common_steps, before some)) in
    let front : length text - (length text - n) ≡ n = omega arith in
    rw (last, front)
