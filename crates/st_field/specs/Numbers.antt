-- Integers as sign and magnitude.
--
-- Proved: by their `ensures` clauses these calls do what definitions here say: `sum_of_alike`
-- (signed.rt), `add` (signed.rt), `add_to_magnitude` (signed.rt), `sum_of_opposites` (signed.rt),
-- and others.
-- Read by: definitions in Bases, Results, BinaryResult of st_bin.
-- Laws: none names a definition of this file itself.
-- Change: the meaning is fixed by docs/variable-fields.md, since the contracts of `st_top::stretch`
-- and `st_account::ledger` unfold to a definition here. The form is free, with the proofs that
-- unfold it.
use Rattle.std.specs.Prelude.{ℕ, zero, suc, ◌^◌, ℤ, pos, negsuc, neg_ℤ, ◌+ℤ◌, unsigned_abs, Bool, true, false, not, nat_le, if◌then◌else◌}
use Rattle.st_field.specs.declared.signed.Signed.{Signed}

-- the sign of an integer, true for minus; zero keeps the previous sign
abbrev pub sign_after : Bool → ℤ → Bool
sign_after before (pos zero) = before
sign_after before (pos (suc _)) = false
sign_after before (negsuc _) = true

-- exclusive or: the sign of a product, or of a number that may be negated
abbrev pub exactly_one : Bool → Bool → Bool
exactly_one a b = if a then not b else b

-- whether a number does not fit in n bits
abbrev pub exceeds : ℕ → ℕ → Bool
exceeds r n = nat_le (2 ^ n) r

-- the integer of a signed number of the code
abbrev pub number_of : Signed → ℤ
number_of n = if n.negative then neg_ℤ (pos n.mag) else pos n.mag

-- the sum of two signed numbers; a sum of zero has the sign of the first
abbrev pub sum_of : Signed → Signed → Signed
sum_of a b = record {
  negative = sign_after a.negative (number_of a +ℤ number_of b);
  mag = unsigned_abs (number_of a +ℤ number_of b);
}

-- the magnitude of an integer, or 0 if it is negative
abbrev pub magnitude_above : ℤ → ℕ
magnitude_above (pos m) = m
magnitude_above (negsuc _) = 0

-- the first number with the second added to its magnitude, at least 0; its sign does not change
abbrev pub magnitude_sum : Signed → Signed → Signed
magnitude_sum a b = record a { mag = magnitude_above (pos a.mag +ℤ number_of b) }
