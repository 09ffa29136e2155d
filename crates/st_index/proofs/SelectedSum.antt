-- The sum of selected values, one index word at a time.
use Rattle.std.proofs.Common.{◌≡◌, ℕ, suc, ◌+◌, ◌-◌, ◌<◌, ◌≤◌, List, length, get_or, drop, ℤ, ◌+ℤ◌, refl, arith, add-one}
use Rattle.std.proofs.Math.Seq.{drop-cons}
use Rattle.std.proofs.Math.IntN.{+ℤ_assoc, +ℤ_idr}
use Rattle.std.specs.Int.{bit_at}
use Rattle.st_bits.specs.Bits.{bits}
use Rattle.st_index.specs.IndexChange.{selected_sum, selected_value}

-- the sum from word j is the value of word j, if it is selected, plus the sum from the next word
selected_sum-drop : (list j k : ℕ) (xs : List ℕ) → j < length xs → selected_sum (bits (suc k) list) (drop j xs) ≡ selected_value (bit_at list k) (get_or xs j 0) +ℤ selected_sum (bits k list) (drop (suc j) xs)
unfolding selected_sum bits
selected_sum-drop list j k xs h = rw (drop-cons xs j 0) refl

-- the sum so far plus the remaining sum is the whole sum, also after word j
pub selected_sum-next : (list j : ℕ) (xs : List ℕ) (s v whole : ℤ) → j < 16 → length xs ≡ 16 → v ≡ selected_value (bit_at list (15 - j)) (get_or xs j 0) → s +ℤ selected_sum (bits (16 - j) list) (drop j xs) ≡ whole → s +ℤ v +ℤ selected_sum (bits (16 - (j + 1)) list) (drop (j + 1) xs) ≡ whole
selected_sum-next list j xs s v whole h len is all =
    let now : 16 - j ≡ suc (15 - j) = omega arith in
    let next : 16 - (j + 1) ≡ 15 - j = omega arith in
    let at_j : j < length xs = omega arith in
    rw (next, add-one, is, +ℤ_assoc, ← selected_sum-drop list j (15 - j) xs at_j, ← now) all

-- after the last word the remaining sum is 0
pub selected_sum-done : (list j : ℕ) (xs : List ℕ) (s : ℤ) → 16 ≤ j → s +ℤ selected_sum (bits (16 - j) list) (drop j xs) ≡ s
unfolding selected_sum bits
selected_sum-done list j xs s h =
    let none : 16 - j ≡ 0 = omega arith in
    rw (none, +ℤ_idr) refl
