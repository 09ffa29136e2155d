-- Properties of the table of register words.
use Rattle.std.proofs.Common.{◌≡◌, ◌≢◌, ℕ, ◌+◌, ◌*◌, ◌-◌, ◌^◌, ◌<◌, ◌≤◌, Bool, true, false, ◌==◌, if◌then◌else◌, refl, sym, subst, arith}
use Rattle.std.proofs.lemmas.Bool.Decides.{nat_tests}
use Rattle.st_bits.specs.Bits.{kept_bits}
use Rattle.st_bits.specs.Registers.{register_word, reads_zero}

-- the table of register words as a function of its tests
abbrev row : Bool → Bool → Bool → Bool → Bool → Bool → ℕ → ℕ
row zero two three seven ten twelve x =
    if zero then 0
    else if two then kept_bits x 0 18
    else if three then kept_bits x 0 18 + kept_bits x 32 18 + kept_bits x 57 1
    else if seven then kept_bits x 17 7 + kept_bits x 44 7
    else if ten then kept_bits x 0 8
    else if twelve then (2 ^ 20 - 1) * 2 ^ 44 + kept_bits x 20 28
    else x

row-twice : (zero two three seven ten twelve : Bool) (x : ℕ)
    → row zero two three seven ten twelve (row zero two three seven ten twelve x)
    ≡ row zero two three seven ten twelve x
row-twice true b c d e f x = refl
row-twice false true c d e f x = omega arith
row-twice false false true d e f x = omega arith
row-twice false false false true e f x = omega arith
row-twice false false false false true f x = omega arith
row-twice false false false false false true x = omega arith
row-twice false false false false false false x = refl

row_below : (zero two three seven ten twelve : Bool) (x : ℕ) → x < 2 ^ 64
    → row zero two three seven ten twelve x < 2 ^ 64
row_below true b c d e f x h = omega arith
row_below false true c d e f x h = omega arith
row_below false false true d e f x h = omega arith
row_below false false false true e f x h = omega arith
row_below false false false false true f x h = omega arith
row_below false false false false false true x h = omega arith
row_below false false false false false false x h = h

row-zero : (zero two three seven ten : Bool) → row zero two three seven ten false 0 ≡ 0
row-zero true b c d e = refl
row-zero false true c d e = refl
row-zero false false true d e = refl
row-zero false false false true e = refl
row-zero false false false false true = refl
row-zero false false false false false = refl

-- a register word that is written back unchanged does not change
pub fixed-twice : (w x : ℕ) → register_word w (register_word w x) ≡ register_word w x
unfolding register_word
fixed-twice w x = row-twice (reads_zero w) (w == 2) (w == 3) (w == 7) (w == 10) (w == 12) x

-- the contents of a register word are below 2 ^ 64
pub fixed_below : (w x : ℕ) → x < 2 ^ 64 → register_word w x < 2 ^ 64
unfolding register_word
fixed_below w x h = row_below (reads_zero w) (w == 2) (w == 3) (w == 7) (w == 10) (w == 12) x h

-- after zero is written to it, every register word but the mask is zero
pub fixed-zero : (w : ℕ) → w ≢ 12 → register_word w 0 ≡ 0
unfolding register_word
fixed-zero w h =
    let other : (w == 12) ≡ false = grind (arith, nat_tests) in
    let P : Bool → Type 0 = λ t. row (reads_zero w) (w == 2) (w == 3) (w == 7) (w == 10) t 0 ≡ 0 in
    subst P (sym other) (row-zero (reads_zero w) (w == 2) (w == 3) (w == 7) (w == 10))

-- index words and storage words have no fixed bits
pub fixed-index : (w x : ℕ) → 16 ≤ w → register_word w x ≡ x
unfolding register_word
fixed-index w x h = grind arith
