-- Plain decimal numbers: one or more digits, without a sign.
--
-- Proved: by their `ensures` clauses these calls do what definitions here say: `read_number`
-- (numbers.rt), `number_up_to` (numbers.rt), `read_digits` (numbers.rt).
-- Read by: definitions in Pieces, Faults of st_strap, Command of st_top, Keywords of st_card, and
-- others.
-- Laws: none names a definition of this file itself.
-- Change: the meaning is fixed by docs/strap.md, since the contracts of `st_top::stretch` and
-- `st_account::ledger` and `st_draw::draw` unfold to a definition here. The form is free, with the
-- proofs that unfold it.
use Rattle.std.specs.Prelude.{ℕ, ◌+◌, ◌*◌, ◌-◌, ◌==◌, ◌&&◌, ◌≤◌, Bool, not, nat_le, List, [], ◌∷◌, length, Option, Some, None, if◌then◌else◌}
use Rattle.std.specs.Char.{is_ascii_digit}
use Rattle.std.specs.List.{list_all}
use Rattle.st_text.specs.Bytes.{digit_zero}
use Rattle.st_text.specs.declared.numbers.Reading.{Reading}
use Rattle.st_text.specs.declared.numbers.Reading.TheVariants.{Bad, Large, Good}

-- whether a text is nonempty
abbrev pub is_filled : List ℕ → Bool
is_filled text = not (length text == 0)

-- whether a text is a plain decimal number
abbrev pub is_number : List ℕ → Bool
is_number text = is_filled text && list_all is_ascii_digit text

-- the value of the digits cs that follow digits of the value n
abbrev pub value_after : ℕ → List ℕ → ℕ
value_after n [] = n
value_after n (c ∷ cs) = value_after (n * 10 + (c - digit_zero)) cs

-- the value of a list of digits
abbrev pub digits_value : List ℕ → ℕ
digits_value digits = value_after 0 digits

-- the result of reading a text as a number of at most `most`
abbrev pub reading : ℕ → List ℕ → Reading
reading most text =
    if is_number text then (if nat_le (digits_value text) most then Good (digits_value text)
    else Large) else Bad

-- a number that was read is at most `most`
abbrev pub IsWithin : ℕ → Reading → Type 0
IsWithin most (Good n) = n ≤ most
IsWithin most Large = Unit {0}
IsWithin most Bad = Unit {0}

-- the number of a result, None if there is none
abbrev pub number_if_good : Reading → Option ℕ
number_if_good (Good n) = Some n
number_if_good Large = None
number_if_good Bad = None

-- the number that a text spells if it is at most `most`, otherwise None
abbrev pub number_up_to : ℕ → List ℕ → Option ℕ
number_up_to most text = number_if_good (reading most text)
