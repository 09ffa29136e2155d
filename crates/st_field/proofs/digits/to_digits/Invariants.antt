use Rattle.std.proofs.Common.{◌≡◌, ◌/◌, ◌^◌}
use Rattle.st_field.specs.Digits.{digits_of}
use Rattle.st_field.proofs.digits.to_digits.Given as goal

abbrev pub invariant-loop-place : goal.invariant-loop-place
invariant-loop-place l = record {
  so_far : l.digits ≡ digits_of l.place l.value;
  left : l.rest ≡ l.value / 10 ^ l.place;
}
