-- Names: 1 to 8 upper-case letters and digits, the first a letter.
--
-- Proved: by their `ensures` clauses these calls do what definitions here say: `all_name_bytes`
-- (names.rt), `is_name` (names.rt), `is_system_word` (names.rt), `padded` (names.rt).
-- Read by: definitions in Term, Saying of st_strap, Lines of st_asm.
-- Laws: none names a definition of this file itself.
-- Change: the meaning is fixed by docs/strap.md, since the contracts of `st_top::stretch` and
-- `st_account::ledger` unfold to a definition here. The form is free, with the proofs that unfold
-- it.
use Rattle.std.specs.Prelude.{ℕ, ◌-◌, ◌==◌, ◌&&◌, ◌||◌, Bool, false, nat_le, List, [], ◌∷◌, ◌++◌, length, replicate}
use Rattle.std.specs.Char.{is_ascii_digit, is_ascii_uppercase}
use Rattle.std.specs.List.{list_all}
use Rattle.st_text.specs.Bytes.{blank, dollar}
use Rattle.st_text.specs.Number.{is_filled}

-- whether a byte is allowed in a name: an upper-case letter or a digit
abbrev pub is_name_byte : ℕ → Bool
is_name_byte c = is_ascii_uppercase c || is_ascii_digit c

-- whether a text is a name
abbrev pub is_name : List ℕ → Bool
is_name [] = false
is_name (c ∷ cs) = is_ascii_uppercase c && list_all is_name_byte cs && nat_le (length cs) 7

-- whether a text is a system word: `$` and 1 to 7 letters and digits
abbrev pub is_system_word : List ℕ → Bool
is_system_word [] = false
is_system_word (c ∷ cs) = c == dollar && is_filled cs && list_all is_name_byte cs
    && nat_le (length cs) 7

-- a name padded with blanks to eight bytes
abbrev pub padded_name : List ℕ → List ℕ
padded_name name = name ++ replicate (8 - length name) blank
