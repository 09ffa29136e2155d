-- Numbers that are shifted by decimal digits.
use Rattle.std.proofs.Common.{leb, ◌≡◌, ℕ, ◌+◌, ◌-◌, ◌*◌, ◌%◌, ◌^◌, ◌<◌, ◌≤◌, sym, subst, arith}
use Rattle.std.proofs.lemmas.Nat.{pow-add}
use Rattle.std.proofs.Math.Nat.{mul-le-mul_right, mul-lt-mul_of_pos_right, mul-div_cancel, mul-mod_left}
use Rattle.std.proofs.Math.Arith.{mod-mul}
use Rattle.std.proofs.lemmas.Bool.Decides.{nat_tests}
use Rattle.st_field.proofs.DigitLemmas.{power_above_zero}

powers_of_places : (place : ℕ) → place < 32 → 10 ^ 32 ≡ 10 ^ (32 - place) * 10 ^ place
powers_of_places place few =
    let whole : 32 ≡ 32 - place + place = omega arith in
    let P : ℕ → Type 0 = λ n. 10 ^ n ≡ 10 ^ (32 - place) * 10 ^ place in
    subst P (sym whole) (pow-add 10 (32 - place) place)

scaled_mod : (m r w : ℕ) → 0 < r → 0 < w → m % r * w ≡ m * w % (r * w)
scaled_mod m r w some more = rw (mod-mul (m * w) some more, mul-div_cancel m more, mul-mod_left m w) (omega arith)

-- the remaining digits of a shifted number, and whether digits are lost
pub digits_at_place : (m place : ℕ) → place < 32 → m % 10 ^ (32 - place) * 10 ^ place ≡ m * 10 ^ place % 10 ^ 32
digits_at_place m place few =
    rw (powers_of_places place few) (scaled_mod m (10 ^ (32 - place)) (10 ^ place) (power_above_zero (32 - place)) (power_above_zero place))

scaled_le : (r m w : ℕ) → 0 < w → leb r m ≡ leb (r * w) (m * w)
scaled_le r m w some =
    let up : r ≤ m → r * w ≤ m * w = λ h. mul-le-mul_right w h in
    let down : m < r → m * w < r * w = λ h. mul-lt-mul_of_pos_right h some in
    grind (arith, nat_tests)

pub lost_place : (m place : ℕ) → place < 32 → leb (10 ^ (32 - place)) m ≡ leb (10 ^ 32) (m * 10 ^ place)
lost_place m place few = rw (powers_of_places place few) (scaled_le (10 ^ (32 - place)) m (10 ^ place) (power_above_zero place))

-- the lemmas about a shift by decimal digits
pub ruleset place_rules = (digits_at_place, lost_place)
