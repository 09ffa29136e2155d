use Rattle.std.proofs.Common.{lit<, ℕ, ◌≡◌, ◌<◌, ◌≤◌, ◌+◌, ◌*◌, ◌/◌, ◌%◌, ◌^◌, arith, refl, sym, subst, ◌∙◌}
use Rattle.std.proofs.Math.Nat.{pow-le-pow_right, mul-le-mul_right, mod-eq_of_lt}
use Rattle.st_field.specs.Digits.{digits_of}
use Rattle.st_field.proofs.DigitLemmas.{power_16, digits_of-next, rest-next, digits_of-below, digits_of-stop, value_of-digits}
use Rattle.st_field.proofs.digits.to_digits.Goals as goal

pub loop-place-init : goal.loop-place-init
unfolding digits_of
loop-place-init c = record { so_far = refl; left = omega arith }

-- a digit in its place fits in 128 bits
digit_placed : (r n : ℕ) → n < 32 → r % 10 * 2 ^ (4 * n) % 2 ^ 128 ≡ r % 10 * 16 ^ n
digit_placed r n few =
    let place : n ≤ 31 = omega arith in
    let power : 16 ^ n ≤ 16 ^ 31 = pow-le-pow_right {n = 16} (lit< tt) place in
    let digit : r % 10 * 16 ^ n ≤ 9 * 16 ^ n = mul-le-mul_right (16 ^ n) (omega arith) in
    rw power_16 (mod-eq_of_lt (omega arith))

-- the first n + 1 digits
next : (v n digits rest : ℕ) → n < 32 → digits ≡ digits_of n v → rest ≡ v / 10 ^ n → digits + rest % 10 * 2 ^ (4 * n) % 2 ^ 128 ≡ digits_of (n + 1) v
next v n digits rest few is left = rw (digit_placed rest n few) (digits_of-next v n digits rest is left)

-- at most 32 digits fit in 128 bits
next_fits : (v n : ℕ) → n < 32 → digits_of (n + 1) v < 2 ^ 128
next_fits v n few =
    let place : n + 1 ≤ 32 = omega arith in
    let power : 16 ^ (n + 1) ≤ 16 ^ 32 = pow-le-pow_right {n = 16} (lit< tt) place in
    let below : digits_of (n + 1) v < 16 ^ (n + 1) = digits_of-below (n + 1) v in
    omega arith

pub overflow_add-digits : goal.overflow_add-digits
overflow_add-digits c =
    let known = c.loop-place.invariant in
    let sum = next c.args.value _ _ _ c.loop-place-test.true known.so_far known.left in
    let all = next_fits c.args.value _ c.loop-place-test.true in
    omega arith

pub loop-place-preserved : goal.loop-place-preserved
loop-place-preserved c =
    let known = c.loop-place.invariant in
    record {
      so_far = next _ _ _ _ c.loop-place-test.true known.so_far known.left;
      left = rw known.left (rest-next _ 10 _);
    }

pub returns-clause-value : goal.returns-clause-value
returns-clause-value c =
    let all : c.loop-place.place ≡ 32 = omega arith in
    let digits : c.loop-place.digits ≡ digits_of 32 c.args.value = subst (λ n. c.loop-place.digits ≡ digits_of n c.args.value) all c.loop-place.invariant.so_far in
    rw digits (value_of-digits 32 c.args.value ∙ mod-eq_of_lt c.requires)

stopped : (c : goal.Then-rest-eq0) → c.loop-place.digits ≡ digits_of 32 c.args.value
stopped c =
    let known = c.loop-place.invariant in
    known.so_far ∙ sym (digits_of-stop c.args.value c.loop-place.place (omega arith) (sym known.left ∙ c.if-rest-eq0.true))

pub returns-then-rest-eq0-clause-digits : goal.returns-then-rest-eq0-clause-digits
returns-then-rest-eq0-clause-digits c = stopped c

pub returns-then-rest-eq0-clause-value : goal.returns-then-rest-eq0-clause-value
returns-then-rest-eq0-clause-value c = rw (stopped c) (value_of-digits 32 c.args.value ∙ mod-eq_of_lt c.requires)
