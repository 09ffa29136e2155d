-- Digits as lists, the digit in place 0 first.
--
-- Proved: by their `ensures` clauses these calls do what definitions here say: `whole_value`
-- (accumulator.rt), `recoded` (digits.rt), `spread` (digits.rt), `to_decimal` (digits.rt), and
-- others.
-- Read by: definitions in DecimalResult, DecimalOperand.
-- Laws: DigitsAgree (specs/Laws.antt of st_laws), EmittedNumbersAreRead (specs/Laws.antt of
-- st_laws).
-- Change: the meaning is fixed by docs/variable-fields.md, since the contracts of `st_top::stretch`
-- and `st_account::ledger` unfold to a definition here. The form is free, with the proofs that
-- unfold it.
use Rattle.std.specs.Prelude.{ℕ, zero, suc, ◌+◌, ◌*◌, ◌/◌, ◌%◌, ◌^◌, List, [], ◌∷◌}

-- the n lowest bytes of b bits of a number, the lowest first
unfoldable pub bytes : ℕ → ℕ → ℕ → List ℕ
bytes b zero x = []
bytes b (suc n) x = (x % 2 ^ b) ∷ bytes b n (x / 2 ^ b)

-- the number with these bytes of b bits
unfoldable pub number_of_bytes : ℕ → List ℕ → ℕ
number_of_bytes b [] = 0
number_of_bytes b (d ∷ ds) = d + 2 ^ b * number_of_bytes b ds

-- the value of a list of codes: the sum of code times 10 ^ place
unfoldable pub codes_value : List ℕ → ℕ
codes_value [] = 0
codes_value (c ∷ cs) = c + 10 * codes_value cs

-- the n lowest decimal digits of a number, the lowest first
unfoldable pub decimal : ℕ → ℕ → List ℕ
decimal zero v = []
decimal (suc n) v = (v % 10) ∷ decimal n (v / 10)
