use Rattle.std.proofs.Common.{lit<, ℕ, ◌≡◌, ◌≢◌, ◌<◌, ◌≤◌, ◌+◌, ◌*◌, ◌%◌, ◌^◌, arith, refl, sym, ◌∙◌}
use Rattle.std.proofs.Math.Nat.{pow-le-pow_right, mul-le-mul_right}
use Rattle.st_field.specs.Digits.{value_of_digits}
use Rattle.st_field.proofs.DigitLemmas.{value_of-next, rest-next, power_suc, value_of-bound, value_of-stop, some-left}
use Rattle.st_field.proofs.digits.digits_value.Invariants.{AddedUp}
use Rattle.st_field.proofs.digits.digits_value.Goals as goal

pub places-init : goal.places-init
unfolding value_of_digits
places-init c = record { place = 0; few = omega arith; so_far = refl; left = omega arith; weighed = refl }

-- the sum of the digits so far and one more fits
sum_fits : (d n v w rest : ℕ) → n < 32 → v ≡ value_of_digits n d → w ≡ 10 ^ n → v + rest % 16 * w < 2 ^ 128
sum_fits d n v w rest few is weight =
    let bound : 3 * v + 5 ≤ 5 * w = rw (is, weight) (value_of-bound n d) in
    let place : n ≤ 31 = omega arith in
    let power : w ≤ 10 ^ 31 = rw weight (pow-le-pow_right {n = 10} (lit< tt) place) in
    let digit : rest % 16 * w ≤ 15 * w = mul-le-mul_right w (omega arith) in
    omega arith

few-places : (digits value rest weight : ℕ) → digits < 2 ^ 128 → (h : AddedUp digits value rest weight) → rest ≢ 0 → h.place < 32
few-places digits value rest weight bound h some = some-left digits h.place bound (λ none. some (h.left ∙ none))

sum : (digits value rest weight : ℕ) → digits < 2 ^ 128 → AddedUp digits value rest weight → rest ≢ 0 → value + rest % 16 * weight < 2 ^ 128
sum digits value rest weight bound h some =
    sum_fits digits h.place value weight rest (few-places digits value rest weight bound h some) h.so_far h.weighed

pub overflow_mul-value : goal.overflow_mul-value
overflow_mul-value c =
    let all = sum c.args.digits c.places.value c.places.rest c.places.weight (omega arith) c.places.invariant c.places-test.true in
    omega (arith, all)

pub overflow_add-value : goal.overflow_add-value
overflow_add-value c =
    let all = sum c.args.digits c.places.value c.places.rest c.places.weight (omega arith) c.places.invariant c.places-test.true in
    omega (arith, all)

pub overflow_mul-weight : goal.overflow_mul-weight
overflow_mul-weight c =
    let known = c.places.invariant in
    let few = few-places c.args.digits c.places.value c.places.rest c.places.weight (omega arith) known c.places-test.true in
    let place : known.place ≤ 31 = omega (arith, few) in
    let power : 10 ^ known.place ≤ 10 ^ 31 = pow-le-pow_right {n = 10} (lit< tt) place in
    rw known.weighed (omega (arith, power))

pub places-preserved : goal.places-preserved
places-preserved c =
    let known = c.places.invariant in
    let few = few-places c.args.digits c.places.value c.places.rest c.places.weight (omega arith) known c.places-test.true in
    record {
      place = known.place + 1;
      few = omega (arith, few);
      so_far = value_of-next _ _ _ _ _ known.so_far known.left known.weighed;
      left = rw known.left (rest-next _ 16 _);
      weighed = rw known.weighed (sym (power_suc 10 _));
    }

pub returns : goal.returns
returns c =
    let known = c.places.invariant in
    record {
      value = known.so_far ∙ sym (value_of-stop c.args.digits known.place known.few (sym known.left ∙ c.places-test.false));
    }
