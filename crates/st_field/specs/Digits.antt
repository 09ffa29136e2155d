-- Decimal digits: codes of four bits, the digit in place 0 rightmost.
--
-- Proved: by their `ensures` clauses these calls do what definitions here say: `to_digits`
-- (digits.rt), `digits_value` (digits.rt).
-- Read by: definitions in BinaryResult of st_bin.
-- Laws: DigitsAgree (specs/Laws.antt of st_laws).
-- Change: the meaning is fixed by docs/variable-fields.md, since the contracts of `st_top::stretch`
-- and `st_account::ledger` unfold to a definition here. The form is free, with the proofs that
-- unfold it.
use Rattle.std.specs.Prelude.{ℕ, zero, suc, ◌+◌, ◌*◌, ◌/◌, ◌%◌, ◌^◌}

-- the code of the digit in the given place
abbrev pub code_at : ℕ → ℕ → ℕ
code_at digits place = digits / 16 ^ place % 16

-- the value of the n lowest digits: the sum of code times 10 ^ place
unfoldable pub value_of_digits : ℕ → ℕ → ℕ
value_of_digits zero digits = 0
value_of_digits (suc n) digits = code_at digits n * 10 ^ n + value_of_digits n digits

-- the codes of the n lowest decimal digits of a number
unfoldable pub digits_of : ℕ → ℕ → ℕ
digits_of zero number = 0
digits_of (suc n) number = number / 10 ^ n % 10 * 16 ^ n + digits_of n number
