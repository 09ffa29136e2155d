use Rattle.std.proofs.Common.{◌≡◌, ◌≤◌, ◌/◌, ◌^◌, ℕ}
use Rattle.st_field.specs.Digits.{value_of_digits}
use Rattle.st_field.proofs.digits.digits_value.Given as goal

-- the loop's invariant: a number of digits is added up
pub record AddedUp (digits value rest weight : ℕ) : Type 0 where
  pub place : ℕ
  pub few : place ≤ 32
  pub so_far : value ≡ value_of_digits place digits
  pub left : rest ≡ digits / 16 ^ place
  pub weighed : weight ≡ 10 ^ place

abbrev pub invariant-places : goal.invariant-places
invariant-places l = AddedUp l.digits l.value l.rest l.weight

abbrev pub decreases-places : goal.decreases-places
decreases-places l = l.rest
